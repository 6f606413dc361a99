-- The greatest budget up to 1,000,000 is the greatest of all.
use Rattle.std.proofs.Common.{ℕ, ◌<◌, length, arith}
use Rattle.std.specs.Prelude.{Option, Some, None, IfSome}
use Rattle.dk_config.specs.Configuration.{Configuration}
use Rattle.dk_plan.specs.Budget.{CanHave, NoGreater, with_budget}
use Rattle.dk_plan.proofs.Unbroken.{range_needed, room_needed}
use Rattle.dk_margins.specs.Margins.{IsGreatest, Stands}

pub is_greatest : (c : Configuration) (p : ℕ) → p < length c.processes → (answer : Option ℕ) → IfSome answer (CanHave c p) → NoGreater c p answer
    → IsGreatest (λ n. Stands (with_budget c p n)) answer
is_greatest c p inside None reached no_greater =
    λ n stands.
    (let least = room_needed c p n inside stands.unbroken in
    let few = range_needed c p n inside stands.unbroken in
    no_greater n (omega (arith, least)) few (record { unbroken = stands.unbroken; certified = stands.certified }))
is_greatest c p inside (Some most) reached no_greater = (
  record { unbroken = reached.unbroken; certified = reached.certified },
  λ n more stands.
      (let few = range_needed c p n inside stands.unbroken in
      no_greater n more few (record { unbroken = stands.unbroken; certified = stands.certified })),
)

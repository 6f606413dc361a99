-- The percentages by which all budgets can grow are those up to one.
use Rattle.std.proofs.Common.{◌≡◌, ap, sym, subst, ℕ, ◌+◌, ◌<◌, ◌≤◌, List, [], ◌∷◌, length, arith}
use Rattle.std.specs.Prelude.{Some, None, All, slice_get}
use Rattle.std.specs.Option.{option_map_or}
use Rattle.std.proofs.lemmas.List.Elements.{All-head}
use Rattle.dk_config.specs.declared.rows.ProcessRow.{ProcessRow}
use Rattle.dk_config.specs.Configuration.{Configuration}
use Rattle.dk_config.specs.Checked.{BreaksNoRule}
use Rattle.dk_config.proofs.CheckedConfig.{checked, within_limits}
use Rattle.dk_plan.proofs.Accepting.{accepted_from, certified_from}
use Rattle.dk_plan.specs.Budget.{IsCertified}
use Rattle.dk_margins.specs.Margins.{Stands}
use Rattle.dk_growth.specs.declared.TheConstants.{TOO_MANY_PERCENT}
use Rattle.dk_growth.specs.Growth.{StaysInRange, GrowsUpTo, IsGrowth, grown}
use Rattle.dk_growth.proofs.Rows.{rows-none}
use Rattle.dk_growth.proofs.Needs.{accepted_less}
use Rattle.dk_growth.proofs.Unbroken.{stay_less, stay_needed, unbroken-grown}

-- each percentage that is less can be had too
pub stands_less : (c : Configuration) (p q : ℕ) → BreaksNoRule c → p ≤ q → Stands (grown c q) → Stands (grown c p)
stands_less c p q unbroken h stands =
    record {
      unbroken = unbroken-grown c p unbroken (stay_less p q c.processes h (stay_needed c q stands.unbroken));
      certified = certified_from (grown c p) (accepted_less c p q h (accepted_from (grown c q) stands.certified));
    }

-- by no percent a configuration doesn't grow
grown-none : (c : Configuration) → grown c 0 ≡ c
grown-none c = ap (λ rows. record c { processes = rows }) (rows-none c.processes)

pub not_as_it_is : (c : Configuration) → BreaksNoRule c → (Stands (grown c 0) → ⊥) → IsCertified c → ⊥
not_as_it_is c unbroken fails certified = fails (subst Stands (sym (grown-none c)) (record { unbroken = unbroken; certified = certified }))

none_stays : (rows : List ProcessRow) → 1 ≤ length rows → 1 ≤ option_map_or (λ row. row.budget) (slice_get rows 0) 0 → All (StaysInRange TOO_MANY_PERCENT) rows → ⊥
none_stays [] some least all = omega arith
none_stays (row ∷ rows) some least all = let far = All-head (StaysInRange TOO_MANY_PERCENT) row rows all in omega (arith, far, least)

pub too_many_fail : (c : Configuration) → BreaksNoRule c → Stands (grown c TOO_MANY_PERCENT) → ⊥
too_many_fail c unbroken stands =
    let some = (within_limits c unbroken).some_processes in
    let least = (checked c unbroken).budgets 0 (omega (arith, some)) in
    none_stays c.processes some (omega (arith, least)) (stay_needed c TOO_MANY_PERCENT stands.unbroken)

-- the greatest percentage is from the one number on and below the other
pub record Between (c : Configuration) (most too_many : ℕ) : Type 0 where
  pub stands : Stands (grown c most)
  pub fails : Stands (grown c too_many) → ⊥
  pub apart : most < too_many
  pub few : too_many ≤ TOO_MANY_PERCENT

module _ (c : Configuration) (unbroken : BreaksNoRule c) where
  pub none_grows : (Stands (grown c 0) → ⊥) → IsGrowth c None
  none_grows fails n stands = fails (stands_less c 0 n unbroken (omega arith) stands)

  pub at_first : Stands (grown c 0) → Between c 0 TOO_MANY_PERCENT
  at_first stands = record { stands = stands; fails = too_many_fail c unbroken; apart = omega arith; few = omega arith }

  module _ (most too_many : ℕ) (between : Between c most too_many) where
    pub found : too_many ≤ most + 1 → IsGrowth c (Some most)
    found last = (between.stands, λ n more stands. between.fails (stands_less c too_many n unbroken (omega (arith, last, more)) stands))

    pub each_less : GrowsUpTo c (Some most)
    each_less = λ p within. stands_less c p most unbroken within between.stands

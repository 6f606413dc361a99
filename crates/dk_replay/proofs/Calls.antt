-- A call takes as many ticks as it costs.
use Rattle.std.proofs.Common.{◌≡◌, ◌∙◌, refl, ap, ◌<◌, ◌+◌, ◌-◌, ℕ, zero, suc, Bool, true, false, arith}
use Rattle.std.specs.Prelude.{◌==◌, if◌then◌else◌, Option}
use Rattle.std.specs.Option.{option_map_or}
use Rattle.std.proofs.lemmas.Bool.Decides.{nat_tests}
use Rattle.dk_isa.specs.declared.Instr.{Instr}
use Rattle.dk_isa.specs.declared.FaultKind.{FaultKind}
use Rattle.dk_cpu.specs.declared.Context.{Context}
use Rattle.dk_cpu.specs.declared.Outcome.{Outcome}
use Rattle.dk_cpu.specs.declared.kernel_call.KernelCall.{KernelCall}
use Rattle.dk_cpu.specs.Machine.{call_tick, fault, left_of_call}
use Rattle.dk_replay.specs.Laws.{CallTakes, left_behind, standing}
use Rattle.dk_replay.proofs.Work.{fetched}

-- what the next tick leaves of the call
less : (cost j : ℕ) → j < cost → (if left_behind cost j == 0 then cost - 1 else left_behind cost j - 1) ≡ cost - suc j
less cost zero h = omega arith
less cost (suc j) h =
    let some : (cost - suc j == 0) ≡ false = grind (arith, nat_tests) in
    ap (λ none. if none then cost - 1 else cost - suc j - 1) some ∙ omega arith

-- the last tick of the call is done where nothing is left
same_test : (cost j : ℕ) → j < cost → (cost - suc j == 0) ≡ (suc j == cost)
same_test cost j h = go (suc j == cost) refl
  where
    go : (last : Bool) → (suc j == cost) ≡ last → (cost - suc j == 0) ≡ last
    go true is = grind (arith, nat_tests)
    go false is = grind (arith, nat_tests)

pub call_takes : CallTakes
call_takes cost code memory regs at k j call is named early =
    let x : Context = standing regs at (left_behind cost j) in
    fetched cost code memory (Instr.Trap k) x is
    ∙ ap (λ (o : Option KernelCall). option_map_or (λ c. call_tick c (left_of_call cost x) x memory) o (fault FaultKind.Call x memory)) named
    ∙ ap (λ n. call_tick call n x memory) (less cost j early)
    ∙ ap (λ (done : Bool). if done
    then record { outcome = Outcome.CallDone call; context = standing regs (at + 1) 0; memory = memory }
    else record { outcome = Outcome.InCall; context = standing regs at (cost - suc j); memory = memory })
    (same_test cost j early)

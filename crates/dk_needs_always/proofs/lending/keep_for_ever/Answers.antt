use Rattle.std.proofs.Common.{ℕ, ◌≡◌, true, false, subst}
use Rattle.std.specs.Prelude.{Option, IfSome}
use Rattle.std.proofs.lemmas.Result.{IfOk-weaker}
use Rattle.dk_allotment.specs.Given.{given}
use Rattle.dk_cycle.specs.declared.Cycle.{Cycle}
use Rattle.dk_cycle.specs.Told.{IsRunCycle}
use Rattle.dk_needs_always.specs.Lending.{KeepBefore, KeepForEver, TakesMoreBefore, TakesMoreIn}
use Rattle.dk_needs_always.proofs.Keeping.{more-by-second}
use Rattle.dk_needs_always.proofs.lending.keep_for_ever.Goals as goal

pub returns-in-Some-ticks_of-clause-kept : goal.returns-in-Some-ticks_of-clause-kept
returns-in-Some-ticks_of-clause-kept c =
    let config = c.args.loaded.now.config in
    let programs = c.args.loaded.now.programs in
    let s : ℕ → ℕ = given c.args.allotments.now in
    let y = c.in-Some.cycle in
    let cycle : IsRunCycle config programs y = subst (λ (o : Option Cycle). IfSome o (IsRunCycle config programs)) c.in-Some.is c.requires.told.1.cycle in
    IfOk-weaker c.keep_before.result (λ keep. keep ≡ true → KeepBefore config programs s c.in-Some-ticks_of.ticks) (λ keep. keep ≡ true → KeepForEver config programs s)
    (λ keep before yes.
    c.first_ticks_law.ensures config programs s y.start y.length c.requires.loaded.checked c.requires.loaded.accepted cycle.stands
    (subst (KeepBefore config programs s) c.in-Some-ticks_of.ensures.few.0 (before yes))) c.keep_before.ensures.kept

pub returns-in-Some-ticks_of-clause-lost : goal.returns-in-Some-ticks_of-clause-lost
returns-in-Some-ticks_of-clause-lost c =
    let config = c.args.loaded.now.config in
    let programs = c.args.loaded.now.programs in
    let s : ℕ → ℕ = given c.args.allotments.now in
    let told = c.args.told.cycle in
    IfOk-weaker c.keep_before.result (λ keep. keep ≡ false → TakesMoreBefore config programs s c.in-Some-ticks_of.ticks) (λ keep. keep ≡ false → TakesMoreIn config programs s told)
    (λ keep more no.
    more-by-second config programs s told c.in-Some.cycle c.in-Some-ticks_of.ticks c.in-Some.is c.in-Some-ticks_of.ensures.few.0 (more no)) c.keep_before.ensures.lost

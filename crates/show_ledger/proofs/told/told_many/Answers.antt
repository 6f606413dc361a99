use Rattle.std.proofs.Common.{suc, ◌≡◌, ◌+◌, ◌∙◌, ap, sym, arith}
use Rattle.dk_trace.specs.Entries.{quiet}
use Rattle.show_ledger.specs.declared.told.Told.{Told}
use Rattle.show_ledger.specs.Told.{told_many, told_with}
use Rattle.show_ledger.proofs.told.told_many.Goals as goal

pub loop-turn-preserved : goal.loop-turn-preserved
loop-turn-preserved c =
    let e = quiet c.args.label in
    let turn = c.loop-turn._turn in
    let next : turn + 1 ≡ suc turn = omega arith in
    let more = c.told_with-more.ensures in
    let tick = c.loop-turn.invariant.tick in
    let one = ap (λ (t : Told). t.tick) more in
    record {
      same = more ∙ ap (told_with e) c.loop-turn.invariant.same ∙ ap (λ n. told_many e n c.args.told) (sym next);
      tick = omega (arith, tick, one);
    }

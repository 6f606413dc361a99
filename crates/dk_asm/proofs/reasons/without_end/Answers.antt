use Rattle.std.proofs.Common.{◌∙◌, sym, arith}
use Rattle.dk_asm.proofs.Amiss.{ends, last_solid}
use Rattle.dk_asm.proofs.reasons.without_end.Goals as goal
use Rattle.dk_asm.proofs.reasons.without_end.Goals.{then-loop-end-test+else-is_blank, else-loop-end-test}

pub returns : goal.returns
returns c =
    elim c.loop-end-test.branch [ then-loop-end-test+else-is_blank w ↦ ends c.args.bytes.now c.loop-end.end c.loop-end.invariant.within c.loop-end.invariant.blank (λ k is. last_solid c.args.bytes.now c.loop-end.end k (sym w.is_blank.ensures ∙ w.if-is_blank.false) is) | else-loop-end-test w ↦ ends c.args.bytes.now c.loop-end.end c.loop-end.invariant.within c.loop-end.invariant.blank (λ k is. absurd (omega (arith, is, w.loop-end-test.false))) ]

use Rattle.std.proofs.Common.{◌≡◌, ◌∙◌, ◌+◌, ◌-◌, ap, sym, subst, suc, arith}
use Rattle.std.specs.Prelude.{if◌then◌else◌}
use Rattle.dk_overrun_spans.specs.Marks.{AreMarks, is_marked, overran_in}
use Rattle.dk_overrun_spans.proofs.Counting.{one-counted}
use Rattle.dk_overrun_spans.proofs.marks.Marks.within.Goals as goal
use Rattle.dk_overrun_spans.proofs.marks.Marks.within.Goals.{then-is_marked, else-is_marked}

pub loop-tick-preserved : goal.loop-tick-preserved
loop-tick-preserved c =
    let now = c.loop-tick.tick in
    let marks = c.as_slice.result.now in
    let same : c.args.self.now ≡ marks = sym (c.as_slice.ensures.value ∙ c.self.view_is) in
    let old = c.loop-tick.found in
    let left = c.args.start + c.args.count - (now + 1) in
    let room = c.loop-tick-test.true in
    let high = c.loop-tick.invariant.most in
    let split : c.args.start + c.args.count - now ≡ suc left = omega (arith, room) in
    let is : c.if-is_marked.found ≡ (if is_marked marks now then (old + 1) else old) =
    elim c.if-is_marked.branch [
      | then-is_marked w ↦ w.found-is ∙ ap (λ b. if b then (old + 1) else old) (sym w.if-is_marked.true ∙ c.is_marked.ensures)
      | else-is_marked w ↦ w.found-is ∙ ap (λ b. if b then (old + 1) else old) (sym w.if-is_marked.false ∙ c.is_marked.ensures)
    ] in
    record {
      counted = λ os are.
          ap (λ n. n + overran_in os (now + 1) left) is ∙ sym (one-counted os now left old marks (subst (AreMarks os) same are))
          ∙ ap (λ n. old + overran_in os now n) (sym split) ∙ c.loop-tick.invariant.counted os are;
      most = (elim c.if-is_marked.branch [
        | then-is_marked w ↦ (let next = w.found-is in omega (arith, next, high))
        | else-is_marked w ↦ (let next = w.found-is in omega (arith, next, high))
      ]);
    }

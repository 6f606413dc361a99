use Rattle.std.proofs.Common.{arith, length-drop, ◌∙◌}
use Rattle.std.proofs.lemmas.List.{take_rest}
use Rattle.dk_outside.proofs.WrittenLemmas.{Appends-take-add}
use Rattle.dk_outside.proofs.sink.write_rest.Goals as goal

pub loop-done-preserved : goal.loop-done-preserved
loop-done-preserved g c =
    let piece = c.args.piece.now in
    let done = c.loop-done.done in
    record {
      in_piece = omega (arith, rw (take_rest piece done) at c.in_ok-n.ensures.part, length-drop done piece);
      appended = Appends-take-add _ _ _ done c.in_ok-n.n piece c.loop-done.invariant.appended (rw (take_rest piece done) at c.in_ok-n.ensures.appended);
      stays = c.in_ok-n.ensures.stays (omega arith) ∙ c.loop-done.invariant.stays;
      same = c.in_ok-n.ensures.same ∙ c.loop-done.invariant.same;
    }

use Rattle.std.proofs.Common.{◌≡◌, ◌-◌, ◌≤◌, length, take}
use Rattle.dk_outside.specs.Written.{Appends}
use Rattle.dk_outside.proofs.sink.write_rest.Given as goal

abbrev pub invariant-loop-done : goal.invariant-loop-done
invariant-loop-done g l = record {
  in_piece : l.done ≤ length l.piece;
  appended : Appends (g.S.Sink.seen l.initial.sink).written (g.S.Sink.seen l.sink).written (take l.done l.piece);
  stays : (g.S.Sink.seen l.sink).faults ≡ (g.S.Sink.seen l.initial.sink).faults;
  same : (g.S.Sink.seen l.sink).capacity ≡ (g.S.Sink.seen l.initial.sink).capacity;
}

abbrev pub decreases-loop-done : goal.decreases-loop-done
decreases-loop-done g l = length l.piece - l.done

use Rattle.std.proofs.Common.{ℕ, ◌≡◌, ◌+◌, ◌-◌, length}
use Rattle.dk_overrun_spans.specs.Marks.{is_marked}
use Rattle.dk_overrun_spans.proofs.marks.mark.Given as goal

-- no tick is marked by the room that is made
abbrev pub invariant-loop-marks : goal.invariant-loop-marks
invariant-loop-marks l = (t : ℕ) → is_marked l.marks.items t ≡ is_marked l.initial.marks.items t

abbrev pub decreases-loop-marks : goal.decreases-loop-marks
decreases-loop-marks l = l.tick + 1 - length l.marks.items

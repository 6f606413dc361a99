use Rattle.std.proofs.Common.{List, ◌≡◌, ◌+◌, ◌-◌, ◌≤◌}
use Rattle.dk_overrun_spans.specs.declared.overrun.Overrun.{Overrun}
use Rattle.dk_overrun_spans.specs.Marks.{AreMarks, overran_in}
use Rattle.dk_overrun_spans.proofs.marks.Marks.within.Given as goal

-- those that were found, before those that are left
abbrev pub invariant-loop-tick : goal.invariant-loop-tick
invariant-loop-tick l = record {
  counted : (os : List Overrun) → AreMarks os l.self → l.found + overran_in os l.tick (l.start + l.count - l.tick) ≡ overran_in os l.start l.count;
  most : l.found + l.start ≤ l.tick;
}

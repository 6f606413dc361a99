use Rattle.std.proofs.Common.{◌≤◌, drop, length}
use Rattle.dk_page_prog.specs.Repeating.{AddsPrograms}
use Rattle.dk_page_prog.proofs.repeating.programs_of.Given as goal

abbrev pub invariant-loop-left : goal.invariant-loop-left
invariant-loop-left l = record {
  least : l.left ≤ length l.loaded.programs;
  added : AddsPrograms (drop l.left l.loaded.config.processes) (drop l.left l.loaded.programs) l.added;
}

abbrev pub decreases-loop-left : goal.decreases-loop-left
decreases-loop-left l = l.left

use Rattle.std.proofs.Common.{◌≡◌, ◌≤◌, length, map}
use Rattle.std.specs.List.{range_with_len}
use Rattle.dk_needs_check.specs.Meaning.{most_asked}
use Rattle.dk_needs_check.proofs.asking.asked_allotments.Given as goal

abbrev pub invariant-loop-process : goal.invariant-loop-process
invariant-loop-process l = l.allotments.items ≡ map (most_asked l.config l.needs) (range_with_len 0 l.process)

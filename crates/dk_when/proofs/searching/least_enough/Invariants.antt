use Rattle.std.proofs.Common.{◌-◌}
use Rattle.dk_when.proofs.Rising.{Searching}
use Rattle.dk_when.proofs.searching.least_enough.Given as goal

abbrev pub invariant-loop-least : goal.invariant-loop-least
invariant-loop-least l = Searching l.config l.process l.ticks l.window l.least

abbrev pub decreases-loop-least : goal.decreases-loop-least
decreases-loop-least l = l.window - l.least

use Rattle.std.proofs.Common.{◌-◌}
use Rattle.dk_when.proofs.Soonest.{Trying}
use Rattle.dk_when.proofs.earliest.least_room.Given as goal

abbrev pub invariant-loop-least : goal.invariant-loop-least
invariant-loop-least l = Trying l.config l.process l.ticks l.window l.least

abbrev pub decreases-loop-least : goal.decreases-loop-least
decreases-loop-least l = l.window - l.least

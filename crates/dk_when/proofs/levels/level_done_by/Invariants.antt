use Rattle.std.proofs.Common.{◌-◌}
use Rattle.dk_when.proofs.Rising.{SearchingAll}
use Rattle.dk_when.proofs.levels.level_done_by.Given as goal

abbrev pub invariant-loop-least : goal.invariant-loop-least
invariant-loop-least l = SearchingAll l.config l.level l.window l.least

abbrev pub decreases-loop-least : goal.decreases-loop-least
decreases-loop-least l = l.window - l.least

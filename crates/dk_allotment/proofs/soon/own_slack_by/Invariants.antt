use Rattle.std.proofs.Common.{◌-◌}
use Rattle.dk_config.specs.Windows.{main_level}
use Rattle.dk_allotment.proofs.Enough.{SearchingSlack}
use Rattle.dk_allotment.proofs.soon.own_slack_by.Given as goal

abbrev pub invariant-loop-least : goal.invariant-loop-least
invariant-loop-least l = SearchingSlack l.config (main_level l.config l.process) l.ticks l.window l.least

abbrev pub decreases-loop-least : goal.decreases-loop-least
decreases-loop-least l = l.window - l.least

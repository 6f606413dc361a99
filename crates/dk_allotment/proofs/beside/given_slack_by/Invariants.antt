use Rattle.std.proofs.Common.{◌-◌}
use Rattle.dk_config.specs.Windows.{main_level}
use Rattle.dk_allotment.specs.Given.{given}
use Rattle.dk_allotment.proofs.Together.{SearchingGiven}
use Rattle.dk_allotment.proofs.beside.given_slack_by.Given as goal

abbrev pub invariant-loop-least : goal.invariant-loop-least
invariant-loop-least l = SearchingGiven l.config (given l.allotments) (main_level l.config l.process) l.window l.least

abbrev pub decreases-loop-least : goal.decreases-loop-least
decreases-loop-least l = l.window - l.least

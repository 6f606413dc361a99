use Rattle.std.proofs.Common.{◌≤◌}
use Rattle.dk_config.specs.declared.TheConstants.{MAX_SPAN}
use Rattle.dk_config.specs.Windows.{main_level}
use Rattle.dk_allotment.specs.Alone.{FitsSoFar}
use Rattle.dk_allotment.proofs.own.own_slack.Given as goal

abbrev pub invariant-loop-level : goal.invariant-loop-level
invariant-loop-level l =
    FitsSoFar l.config l.process l.level l.most × (l.most ≤ MAX_SPAN) × (main_level l.config l.process ≤ l.level)

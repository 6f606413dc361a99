use Rattle.std.proofs.Common.{◌≡◌, replicate}
use Rattle.dk_slack.proofs.starting.zeros.Given as goal

abbrev pub invariant-loop-level : goal.invariant-loop-level
invariant-loop-level l = l.zeros.items ≡ replicate l.level 0

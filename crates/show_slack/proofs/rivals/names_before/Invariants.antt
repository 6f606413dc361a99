use Rattle.std.proofs.Common.{◌≡◌, string_bytes}
use Rattle.show_slack.specs.Slack.{names_before}
use Rattle.show_slack.proofs.rivals.names_before.Given as goal

-- the names so far
abbrev pub invariant-loop-other : goal.invariant-loop-other
invariant-loop-other l = string_bytes l.names ≡ names_before l.config l.process l.other

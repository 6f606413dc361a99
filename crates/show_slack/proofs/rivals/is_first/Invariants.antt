use Rattle.std.proofs.Common.{ℕ, ◌≡◌, ◌<◌, false}
use Rattle.show_slack.specs.Slack.{stands_before}
use Rattle.show_slack.proofs.rivals.is_first.Given as goal

-- none so far
abbrev pub invariant-loop-other : goal.invariant-loop-other
invariant-loop-other l = (q : ℕ) → q < l.other → stands_before l.config l.process q ≡ false

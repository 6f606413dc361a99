use Rattle.std.proofs.Common.{ap}
use Rattle.dk_groups.proofs.Slices.{whole_slice}
use Rattle.dk_trace_events.specs.SlackPoints.{slack_of}
use Rattle.dk_trace_events.proofs.laws.counts_slack.Goals as goal

pub returns : goal.returns
returns c = λ from to es. ap slack_of (whole_slice from to es)

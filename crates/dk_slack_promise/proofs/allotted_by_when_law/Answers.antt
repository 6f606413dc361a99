use Rattle.dk_slack_promise.proofs.Soon.{allotted_by_when}
use Rattle.dk_slack_promise.proofs.allotted_by_when_law.Goals as goal

pub returns : goal.returns
returns c = allotted_by_when

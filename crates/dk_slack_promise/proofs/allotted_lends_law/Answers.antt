use Rattle.dk_slack_promise.proofs.Allotted.{allotted_lends}
use Rattle.dk_slack_promise.proofs.allotted_lends_law.Goals as goal

pub returns : goal.returns
returns c = allotted_lends

use Rattle.dk_slack_promise.proofs.Allotted.{allotted_fits}
use Rattle.dk_slack_promise.proofs.allotted_law.Goals as goal

pub returns : goal.returns
returns c = allotted_fits

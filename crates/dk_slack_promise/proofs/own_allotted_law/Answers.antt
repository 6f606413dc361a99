use Rattle.dk_slack_promise.proofs.Own.{own_allotted}
use Rattle.dk_slack_promise.proofs.own_allotted_law.Goals as goal

pub returns : goal.returns
returns c = own_allotted

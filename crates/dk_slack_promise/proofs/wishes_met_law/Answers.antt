use Rattle.dk_slack_promise.proofs.Own.{wishes_met}
use Rattle.dk_slack_promise.proofs.wishes_met_law.Goals as goal

pub returns : goal.returns
returns c = wishes_met

use Rattle.dk_slack_promise.proofs.Long.{lends_spare}
use Rattle.dk_slack_promise.proofs.lends_law.Goals as goal

pub returns : goal.returns
returns c = lends_spare

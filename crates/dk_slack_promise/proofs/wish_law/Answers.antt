use Rattle.dk_slack_promise.proofs.Rest.{wish_is_heard}
use Rattle.dk_slack_promise.proofs.wish_law.Goals as goal

pub returns : goal.returns
returns c = wish_is_heard

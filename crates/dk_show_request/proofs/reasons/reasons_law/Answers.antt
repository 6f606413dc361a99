use Rattle.dk_show_request.proofs.TrueReasons.{reasons_hold}
use Rattle.dk_show_request.proofs.reasons.reasons_law.Goals as goal

pub returns : goal.returns
returns c = reasons_hold

use Rattle.dk_plan.proofs.Accepting.{accepted_from, certified_from}
use Rattle.dk_plan.proofs.laws.certified_is_accepted.Goals as goal

pub returns : goal.returns
returns c = λ config. (accepted_from config, certified_from config)

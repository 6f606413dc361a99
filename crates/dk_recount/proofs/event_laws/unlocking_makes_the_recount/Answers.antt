use Rattle.dk_recount.proofs.Call.Lock.{unlocking}
use Rattle.dk_recount.proofs.event_laws.unlocking_makes_the_recount.Goals as goal

pub returns : goal.returns
returns c = λ m x k label past d calling sound families. unlocking c.hold_laws.ensures x k label past d calling sound families m

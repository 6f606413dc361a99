use Rattle.dk_recount.proofs.Call.Lock.{locking, nobody-past}
use Rattle.dk_recount.proofs.event_laws.locking_makes_the_recount.Goals as goal

pub returns : goal.returns
returns c = record {
  free = λ m x k label past d calling sound families. nobody-past c.hold_laws.ensures x k label past d calling sound families m;
  booked = λ m x k label past d calling sound families. locking c.hold_laws.ensures x k label past d calling sound families m;
}

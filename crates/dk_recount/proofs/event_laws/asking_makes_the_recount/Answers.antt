use Rattle.dk_recount.proofs.Call.Ask.{asks}
use Rattle.dk_recount.proofs.event_laws.asking_makes_the_recount.Goals as goal

pub returns : goal.returns
returns c = asks (record {
  caller = c.caller_laws.ensures;
  asking = c.call_keeps_the_recount.ensures;
})

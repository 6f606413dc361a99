use Rattle.dk_mutex.proofs.Freeing.{left-freed, emptied-freed}
use Rattle.dk_mutex.proofs.Stopping.{event_is}
use Rattle.dk_mutex.proofs.laws.stops_keep_the_recount.Goals as goal

pub returns : goal.returns
returns c = record { event = event_is; holds = left-freed; mutexes = emptied-freed }

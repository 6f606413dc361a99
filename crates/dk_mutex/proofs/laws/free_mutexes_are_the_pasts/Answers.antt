use Rattle.dk_mutex.proofs.Innermost.{free-nobody, nobody-free}
use Rattle.dk_mutex.proofs.laws.free_mutexes_are_the_pasts.Goals as goal

pub returns : goal.returns
returns c = record { free = nobody-free; nobody = free-nobody }

use Rattle.dk_chain.proofs.KernelFirst.{reacts_sooner}
use Rattle.dk_chain.proofs.sooner.sooner_law.Goals as goal

pub returns : goal.returns
returns c = reacts_sooner

use Rattle.dk_chain.proofs.Exactly.{no_sooner, soonest_is_had}
use Rattle.dk_chain.proofs.earliest.no_sooner_law.Goals as goal

pub returns-clause-never : goal.returns-clause-never
returns-clause-never c = no_sooner

pub returns-clause-met : goal.returns-clause-met
returns-clause-met c = soonest_is_had

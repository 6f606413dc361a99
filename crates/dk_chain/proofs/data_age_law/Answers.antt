use Rattle.dk_chain.proofs.Age.{ages_in_time}
use Rattle.dk_chain.proofs.data_age_law.Goals as goal

pub returns : goal.returns
returns c = ages_in_time

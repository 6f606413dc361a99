use Rattle.dk_certify.proofs.ReachLemmas.{blocks_no_longer}
use Rattle.dk_certify.proofs.laws.lower_reach_blocks_no_longer.Goals as goal

pub returns : goal.returns
returns c = blocks_no_longer

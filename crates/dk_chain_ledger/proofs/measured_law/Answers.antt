use Rattle.dk_chain_ledger.proofs.Within.{reacts_within}
use Rattle.dk_chain_ledger.proofs.measured_law.Goals as goal

pub returns : goal.returns
returns c = reacts_within

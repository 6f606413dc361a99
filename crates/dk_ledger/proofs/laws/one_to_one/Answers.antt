use Rattle.dk_ledger.proofs.Readings.{one_text}
use Rattle.dk_ledger.proofs.laws.one_to_one.Goals as goal

pub returns : goal.returns
returns c = one_text

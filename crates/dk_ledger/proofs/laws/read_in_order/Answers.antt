use Rattle.dk_ledger.proofs.Readings.{read_in_order}
use Rattle.dk_ledger.proofs.laws.read_in_order.Goals as goal

pub returns : goal.returns
returns c = read_in_order

use Rattle.show_ledger.proofs.Sums.{tenths-are-all}
use Rattle.show_ledger.proofs.laws.tenths_law.Goals as goal

pub returns : goal.returns
returns c = tenths-are-all

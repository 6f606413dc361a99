use Rattle.show_ledger.proofs.Best.{extreme_is, extreme_none}
use Rattle.show_ledger.proofs.laws.extreme_law.Goals as goal

pub returns : goal.returns
returns c = record { found = extreme_is; none = extreme_none }

use Rattle.dk_ledger.proofs.OneCut.{is_cut, only_cut}
use Rattle.dk_ledger.proofs.laws.one_cut.Goals as goal

pub returns : goal.returns
returns c = record { lines = is_cut; alone = only_cut }

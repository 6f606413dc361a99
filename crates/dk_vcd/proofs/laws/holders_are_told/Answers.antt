use Rattle.dk_vcd.proofs.Told.{told_right}
use Rattle.dk_vcd.proofs.laws.holders_are_told.Goals as goal

pub returns : goal.returns
returns c = told_right

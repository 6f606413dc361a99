use Rattle.dk_alone.proofs.Names.{nat_tests, arith}
use Rattle.dk_alone.proofs.Cycles.{windows-as-alone}
use Rattle.dk_alone.proofs.windows_law.Goals as goal

pub returns : goal.returns
returns c config programs p t n checked accepted keeps begins begins_later = grind (arith, nat_tests, windows-as-alone)

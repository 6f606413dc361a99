use Rattle.dk_loader.proofs.Names.{nat_tests, arith}
use Rattle.dk_loader.proofs.Rows.{each_row-map}
use Rattle.dk_loader.proofs.shape.rows_fault.Goals as goal

pub returns : goal.returns
returns c = grind (arith, nat_tests, each_row-map)

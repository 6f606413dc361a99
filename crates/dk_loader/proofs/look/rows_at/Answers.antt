use Rattle.dk_loader.proofs.Names.{nat_tests, arith}
use Rattle.dk_loader.proofs.Rows.{items_list-items_view, elements-as_array}
use Rattle.dk_loader.proofs.look.rows_at.Goals as goal

pub returns-in-Some-as_array : goal.returns-in-Some-as_array
returns-in-Some-as_array c = grind (arith, nat_tests, elements-as_array, items_list-items_view)

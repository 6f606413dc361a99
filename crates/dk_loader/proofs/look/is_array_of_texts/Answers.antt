use Rattle.dk_loader.proofs.Names.{list_all-map, nat_tests, arith}
use Rattle.dk_loader.proofs.Rows.{items_list-items_view}
use Rattle.dk_loader.proofs.look.is_array_of_texts.Goals as goal

pub returns-in-Some : goal.returns-in-Some
returns-in-Some c = grind (arith, nat_tests, items_list-items_view, list_all-map)

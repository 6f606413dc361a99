use Rattle.dk_loader.proofs.Names.{nat_tests, arith}
use Rattle.dk_loader.proofs.PrintedLemmas.{members_view-insert_entry}
use Rattle.dk_loader.proofs.writing.put.Goals as goal

pub returns : goal.returns
returns c = grind (arith, nat_tests, members_view-insert_entry)

use Rattle.dk_loader.proofs.Names.{view-Boolean, nat_tests, arith}
use Rattle.dk_loader.proofs.writing.process_table.Goals as goal

pub returns-clause-members : goal.returns-clause-members
returns-clause-members c = grind (arith, nat_tests, view-Boolean)

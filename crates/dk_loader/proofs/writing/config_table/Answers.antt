use Rattle.dk_loader.proofs.Names.{view-Table, nat_tests, arith}
use Rattle.dk_loader.specs.Printed.{config_members}
use Rattle.dk_loader.proofs.writing.config_table.Goals as goal

pub returns-clause-members : goal.returns-clause-members
unfolding config_members
returns-clause-members c = grind (arith, nat_tests, view-Table)

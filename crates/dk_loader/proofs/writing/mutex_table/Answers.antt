use Rattle.dk_loader.proofs.writing.mutex_table.Goals as goal
use Rattle.std.proofs.lemmas.Bool.Decides.{nat_tests}
use Rattle.std.proofs.Common.{arith}

pub returns-clause-members : goal.returns-clause-members
returns-clause-members c = grind (arith, nat_tests)

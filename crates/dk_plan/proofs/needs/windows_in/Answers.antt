use Rattle.dk_plan.proofs.Names.{nat_tests, arith}
use Rattle.dk_plan.proofs.Limits.{windows_positive}
use Rattle.dk_plan.proofs.needs.windows_in.Goals as goal

pub returns-clause-windows : goal.returns-clause-windows
returns-clause-windows c = grind (arith, nat_tests)

pub returns-clause-positive : goal.returns-clause-positive
returns-clause-positive c = grind (arith, nat_tests, windows_positive)

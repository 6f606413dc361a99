use Rattle.dk_plan.proofs.Names.{nat_tests, arith}
use Rattle.dk_plan.proofs.Claims.{exact, greatest-positive}
use Rattle.dk_plan.proofs.harmonising.utilisation.Goals as goal

pub returns-clause-exact : goal.returns-clause-exact
returns-clause-exact c = grind (arith, nat_tests, exact)

pub returns-clause-positive : goal.returns-clause-positive
returns-clause-positive c = grind (arith, nat_tests, greatest-positive)

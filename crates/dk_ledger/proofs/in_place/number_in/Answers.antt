use Rattle.dk_ledger.proofs.Names.{arith, decimal_digit, nat_tests}
use Rattle.dk_ledger.proofs.in_place.number_in.Goals as goal

pub returns-then-first-eq0 : goal.returns-then-first-eq0
returns-then-first-eq0 c = grind (arith, nat_tests, decimal_digit)

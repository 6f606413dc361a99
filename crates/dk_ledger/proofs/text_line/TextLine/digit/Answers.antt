use Rattle.dk_ledger.proofs.Names.{arith, decimal_digit, take_more_set, length-take-le, nat_tests}
use Rattle.dk_ledger.proofs.text_line.TextLine.digit.Goals as goal

pub returns-clause-bytes : goal.returns-clause-bytes
returns-clause-bytes c = grind (arith, nat_tests, length-take-le, take_more_set, decimal_digit)

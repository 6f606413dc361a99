use Rattle.dk_ledger.proofs.Names.{bytes_eq-Decides, nat_tests, arith}
use Rattle.dk_ledger.proofs.text_line.TextLine.is.Goals as goal

pub returns : goal.returns
returns c = grind (arith, nat_tests, bytes_eq-Decides)

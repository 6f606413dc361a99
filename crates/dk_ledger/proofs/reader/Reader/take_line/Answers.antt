use Rattle.dk_ledger.proofs.Names.{nat_tests, arith}
use Rattle.dk_ledger.proofs.PrintedLines.{item_plain, plain_text}
use Rattle.dk_ledger.proofs.reader.Reader.take_line.Goals as goal

pub returns-in_default-clause-refused : goal.returns-in_default-clause-refused
returns-in_default-clause-refused c = grind (arith, nat_tests, plain_text, item_plain)

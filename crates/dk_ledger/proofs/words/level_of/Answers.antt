use Rattle.dk_ledger.proofs.Names.{nat_tests, arith}
use Rattle.dk_ledger.proofs.WordLists.{word_at}
use Rattle.dk_ledger.proofs.words.level_of.Goals as goal

pub returns-in-len10 : goal.returns-in-len10
returns-in-len10 c = grind (arith, nat_tests, word_at)

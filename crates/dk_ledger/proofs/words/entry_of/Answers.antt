use Rattle.dk_ledger.proofs.Names.{nat_tests, arith}
use Rattle.dk_ledger.proofs.WordLists.{label_front, event_behind}
use Rattle.dk_ledger.proofs.words.entry_of.Goals as goal

pub returns-clause-found : goal.returns-clause-found
returns-clause-found c = grind (arith, nat_tests, label_front, event_behind)

pub returns-in_err-label_of-clause-found : goal.returns-in_err-label_of-clause-found
returns-in_err-label_of-clause-found c = grind (arith, nat_tests)

use Rattle.dk_ledger.proofs.Names.{arith}
use Rattle.dk_ledger.proofs.WordLists.{no_event}
use Rattle.dk_ledger.proofs.event_words.event_of.Goals as goal

pub returns-in_default : goal.returns-in_default
returns-in_default c = λ label h event has few e. no_event c.args.words.now (λ n. omega arith) (λ n. omega arith) (λ n. omega arith) event e

pub returns-in_default-2 : goal.returns-in_default-2
returns-in_default-2 c = λ label h event has few e. no_event c.args.words.now (λ n. omega arith) (λ n. omega arith) (λ n. omega arith) event e

pub returns-in_default-3 : goal.returns-in_default-3
returns-in_default-3 c = λ label h event has few e. no_event c.args.words.now (λ n. omega arith) (λ n. omega arith) (λ n. omega arith) event e

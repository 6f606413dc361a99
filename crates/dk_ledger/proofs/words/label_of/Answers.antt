use Rattle.dk_ledger.proofs.Names.{arith}
use Rattle.dk_ledger.proofs.WordLists.{timeline_label, reclaimed_label, idle_label, no_label}
use Rattle.dk_ledger.proofs.words.label_of.Goals as goal

pub returns-in-len1-clause-found : goal.returns-in-len1-clause-found
returns-in-len1-clause-found c = λ label has e. idle_label c.args.header.now c.args.words.now c.in-len1.len_below label e

pub returns-in-len4-clause-found : goal.returns-in-len4-clause-found
returns-in-len4-clause-found c = timeline_label c.args.header.now c.args.words.now _ c.slack_of.result c.in-len4.len_at_least c.in-len4.len_below c.slack_of.ensures.found

pub returns-in-len5-clause-found : goal.returns-in-len5-clause-found
returns-in-len5-clause-found c =
    reclaimed_label c.args.header.now c.args.words.now _ c.small_number.result c.slack_of-in-len5.result c.in-len5.len_at_least c.requires.printable.levels c.small_number.ensures c.slack_of-in-len5.ensures.found

pub returns-in_default-clause-found : goal.returns-in_default-clause-found
returns-in_default-clause-found c = λ label has e. no_label c.args.header.now c.args.words.now (λ n. omega arith) (λ n. omega arith) (λ n. omega arith) (λ n. omega arith) label e

pub returns-in_default-2-clause-found : goal.returns-in_default-2-clause-found
returns-in_default-2-clause-found c = λ label has e. no_label c.args.header.now c.args.words.now (λ n. omega arith) (λ n. omega arith) (λ n. omega arith) (λ n. omega arith) label e

pub returns-in_default-3-clause-found : goal.returns-in_default-3-clause-found
returns-in_default-3-clause-found c = λ label has e. no_label c.args.header.now c.args.words.now (λ n. omega arith) (λ n. omega arith) (λ n. omega arith) (λ n. omega arith) label e

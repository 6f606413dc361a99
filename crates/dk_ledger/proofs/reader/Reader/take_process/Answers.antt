use Rattle.dk_ledger.proofs.Names.{rules, arith, Item, nat_tests}
use Rattle.dk_ledger.proofs.NextItem.{nothing, one_side, if_ok, process_found}
use Rattle.dk_ledger.proofs.reader.Reader.take_process.Goals as goal

pub returns-in_default-clause-refused : goal.returns-in_default-clause-refused
returns-in_default-clause-refused c = grind (arith, nat_tests, process_found, if_ok, nothing)

pub returns-then-not-is_next_process-clause-refused : goal.returns-then-not-is_next_process-clause-refused
returns-then-not-is_next_process-clause-refused c = grind (arith, nat_tests, process_found, if_ok, one_side)

pub returns-clause-taken : goal.returns-clause-taken
returns-clause-taken c = λ yes.
    let next = c.is_next_process.ensures.0 c.if-not-is_next_process.false in
    (Item.Process c.in-Some.process, record { body = next.1; fits = next.0; added = search rules })

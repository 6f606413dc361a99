use Rattle.dk_ledger.proofs.Names.{rules, Item, nat_tests, arith}
use Rattle.dk_ledger.proofs.NextItem.{nothing, one_side, level_found}
use Rattle.dk_ledger.proofs.reader.Reader.take_level.Goals as goal

pub returns-in_default-clause-refused : goal.returns-in_default-clause-refused
returns-in_default-clause-refused c = grind (arith, nat_tests, level_found, nothing)

pub returns-then-not-is_next_level-clause-refused : goal.returns-then-not-is_next_level-clause-refused
returns-then-not-is_next_level-clause-refused c = grind (arith, nat_tests, level_found, one_side)

pub returns-clause-taken : goal.returns-clause-taken
returns-clause-taken c = λ yes.
    let next = c.is_next_level.ensures.0 c.if-not-is_next_level.false in
    (Item.Level c.in-Some.row, record { body = next.1; fits = next.0; added = search rules })

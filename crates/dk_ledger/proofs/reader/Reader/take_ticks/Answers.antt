use Rattle.dk_ledger.proofs.Names.{rules, arith, Item, nat_tests}
use Rattle.dk_ledger.proofs.NextItem.{nothing, one_side, ticks_found, part_printable}
use Rattle.dk_ledger.proofs.reader.Reader.take_ticks.Goals as goal

pub ticks_of-requires-clause-printable : goal.ticks_of-requires-clause-printable
ticks_of-requires-clause-printable c = part_printable c.args.self.now c.requires.part

pub is_next_ticks-requires-clause-printable : goal.is_next_ticks-requires-clause-printable
is_next_ticks-requires-clause-printable c = part_printable c.args.self.now c.requires.part

pub returns-in_default-clause-refused : goal.returns-in_default-clause-refused
returns-in_default-clause-refused c = grind (arith, nat_tests, ticks_found, nothing)

pub returns-then-not-is_next_ticks-clause-refused : goal.returns-then-not-is_next_ticks-clause-refused
returns-then-not-is_next_ticks-clause-refused c = grind (arith, nat_tests, ticks_found, one_side)

pub returns-clause-taken : goal.returns-clause-taken
returns-clause-taken c = λ yes.
    let next = c.is_next_ticks.ensures.0 c.if-not-is_next_ticks.false in
    (Item.Ticks c.in-Some.next, record { body = next.1; fits = next.0; added = search rules })

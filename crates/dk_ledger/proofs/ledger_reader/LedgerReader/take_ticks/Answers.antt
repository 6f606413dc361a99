use Rattle.dk_ledger.proofs.Names.{◌∙◌, ◌∷◌, [], ap, arith, append_assoc, refl, line_body, Item, Takes, keeping, nat_tests}
use Rattle.dk_ledger.proofs.Readings.{further_read, few_lines_read}
use Rattle.dk_ledger.proofs.ledger_reader.LedgerReader.take_ticks.Goals as goal

pub overflow_add-self : goal.overflow_add-self
overflow_add-self c = grind (arith, nat_tests, few_lines_read)

pub returns-clause-taken : goal.returns-clause-taken
returns-clause-taken c = λ bytes es read.
    let kept = ap (λ r. r.kept) c.self.view_is in
    let line = ap (λ r. r.line) c.self.view_is in
    let body = line_body c.args.self.now.kept.heading c.args.line in
    let taken : Takes c.args.self.now.kept body c.add_ticks.new.self (Item.Ticks c.args.line) =
    record { body = refl; fits = c.requires.fits; added = c.add_ticks.ensures ∙ ap (λ k. keeping k (Item.Ticks c.args.line)) kept } in
    further_read bytes es c.args.self.now read c.add_ticks.new.self body c.args.behind.now (Item.Ticks c.args.line) c.self.inside.line taken
    (c.requires.text ∙ append_assoc body (10 ∷ []) c.args.behind.now) line

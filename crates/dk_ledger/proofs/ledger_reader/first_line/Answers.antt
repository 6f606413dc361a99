use Rattle.dk_ledger.proofs.Names.{◌∙◌, ◌+◌, ◌++◌, ◌∷◌, sym, ap, take_rest, nat_tests, arith}
use Rattle.std.specs.Prelude.{take}
use Rattle.dk_ledger.proofs.Readings.{next_line, no_line_feed}
use Rattle.dk_ledger.proofs.ledger_reader.first_line.Goals as goal

pub returns-in_err-length : goal.returns-in_err-length
returns-in_err-length c = grind (arith, nat_tests, no_line_feed)

pub returns : goal.returns
returns c =
    let found = next_line c.args.bytes.now c.in_ok-length.length (sym c.feed_at.ensures ∙ c.in_ok-length.was) in
    let rest = take_rest c.args.bytes.now (c.in_ok-length.length + 1) in
    (found.1 ∙ ap (λ bs. take c.in_ok-length.length c.args.bytes.now ++ 10 ∷ bs) (sym rest), found.2)

use Rattle.dk_show_request.proofs.Names.{rules, ◌≡◌, true, sym, is_spelled}
use Rattle.dk_show_request.proofs.Numerals.{too_large}
use Rattle.dk_show_request.proofs.numbers.ticks_in.Goals as goal

pub returns-in-Err-clause-value : goal.returns-in-Err-clause-value
returns-in-Err-clause-value c =
    let spelled : is_spelled c.args.word.now ≡ true = search rules in
    sym (too_large c.args.word.now spelled c.in-Err.ensures.value.0)

use Rattle.std.proofs.Common.{rules, ◌≡◌, true, sym}
use Rattle.dk_page_prog.specs.Numbers.{is_spelled}
use Rattle.dk_page_prog.proofs.Numerals.{too_large}
use Rattle.dk_page_prog.proofs.numbers.ticks_in.Goals as goal

pub returns-in-Err : goal.returns-in-Err
returns-in-Err c =
    let spelled : is_spelled c.args.word.now ≡ true = search rules in
    sym (too_large c.args.word.now spelled c.in-Err.ensures.value.0)

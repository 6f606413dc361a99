use Rattle.dk_request.proofs.Names.{rules, arith, ◌≡◌, true, sym, is_numeral}
use Rattle.dk_request.proofs.WordLemmas.{too_large}
use Rattle.dk_request.proofs.words.number_in.Goals as goal

pub returns-in-Err-clause-value : goal.returns-in-Err-clause-value
returns-in-Err-clause-value c =
    let spelled : is_numeral c.args.word.now ≡ true = search rules in
    sym (too_large c.args.word.now c.args.least c.args.most (omega arith) spelled c.in-Err.ensures.value.0)

use Rattle.std.proofs.Common.{lit<, rules, sym, eqb}
use Rattle.std.proofs.lemmas.Str.Pattern.{split_once_first}
use Rattle.dk_show_request.proofs.Splitting.{none_behind}
use Rattle.dk_show_request.proofs.allotments.number_in.Goals as goal

pub returns-in-Some : goal.returns-in-Some
returns-in-Some c = let h = split_once_first 61 c.args.word.now c.split_once.result c.split_once.ensures.cases (lit< tt) in search rules

pub returns-in-None : goal.returns-in-None
returns-in-None c =
    let h = split_once_first 61 c.args.word.now c.split_once.result c.split_once.ensures.cases (lit< tt) in
    sym (none_behind (λ b. eqb b 61) c.args.word.now (search rules))

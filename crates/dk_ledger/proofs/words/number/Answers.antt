use Rattle.dk_ledger.proofs.Names.{◌∙◌, ap, arith, result_unwrap_or, parse-decimal}
use Rattle.dk_ledger.proofs.words.number.Goals as goal

pub returns : goal.returns
returns c = λ n small e. c.unwrap_or.ensures ∙ ap (λ r. result_unwrap_or r 0) (parse-decimal 32 n c.args.word.now c.parse.result (omega arith) (omega arith) e c.parse.ensures.value.0)

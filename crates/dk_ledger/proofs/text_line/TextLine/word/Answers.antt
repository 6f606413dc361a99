use Rattle.dk_ledger.proofs.Names.{◌∙◌, ap, length, length-append, arith, common_steps}
use Rattle.dk_ledger.proofs.text_line.TextLine.word.Goals as goal

pub returns-clause-bytes : goal.returns-clause-bytes
returns-clause-bytes c = grind (arith, common_steps)

pub returns-clause-len : goal.returns-clause-len
returns-clause-len c = ap length (returns-clause-bytes c) ∙ length-append c.args.self.now c.args.text.now

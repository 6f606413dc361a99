use Rattle.dk_asm.proofs.Imports.{◌∙◌, ap, rules, option_map, Statement, pieces_of}
use Rattle.dk_asm.proofs.SomeReading.{one_to_four}
use Rattle.dk_asm.proofs.line.bytes_of.Goals as goal

pub returns-in_err-operands : goal.returns-in_err-operands
returns-in_err-operands c =
    let none = ap (option_map Statement.bytes) c.in_err-operands.ensures ∙ one_to_four (pieces_of c.args.text.now) in
    search (rules, none)

pub returns : goal.returns
returns c = ap (option_map Statement.bytes) c.in_ok-operands.ensures ∙ one_to_four (pieces_of c.args.text.now)

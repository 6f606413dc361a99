use Rattle.dk_asm.proofs.Imports.{◌∙◌, ap, length, arith, rules, leb-true, option_map, Statement, row_of, pieces_of, read_some}
use Rattle.dk_asm.proofs.Encodings.{three_kinds}
use Rattle.dk_asm.proofs.SomeReading.{all_pieces}
use Rattle.dk_asm.proofs.line.instruction_of.Goals as goal

pub operands_of-requires : goal.operands_of-requires
operands_of-requires c =
    let few = leb-true (length (row_of c.args.mnemonic).kinds) 3 (three_kinds c.args.mnemonic) in
    let same = ap length c.kinds.ensures in
    omega (arith, few, same)

pub returns-in_err-operands : goal.returns-in_err-operands
returns-in_err-operands c =
    let all = ap (λ ks. read_some 0 ks (pieces_of c.args.text.now)) c.kinds.ensures ∙ all_pieces (row_of c.args.mnemonic).kinds (pieces_of c.args.text.now) in
    let none = ap (option_map (Statement.instruction c.args.mnemonic)) (c.in_err-operands.ensures ∙ all) in
    search (rules, none)

pub returns : goal.returns
returns c =
    let all = ap (λ ks. read_some 0 ks (pieces_of c.args.text.now)) c.kinds.ensures ∙ all_pieces (row_of c.args.mnemonic).kinds (pieces_of c.args.text.now) in
    ap (option_map (Statement.instruction c.args.mnemonic)) (c.in_ok-operands.ensures ∙ all)

use Rattle.dk_asm.proofs.Imports.{◌∙◌, ◌++◌, ap, on_ok_weaker, operand_texts, behind, row_of, written}
use Rattle.dk_asm.proofs.Listings.{after_name, same_operands}
use Rattle.dk_asm.proofs.listing.push_instruction.Goals as goal

pub returns : goal.returns
returns c =
    let w = written c.args.instr in
    let m = c.mnemonic_of-mnemonic in
    let operands = same_operands c.kinds.result.now c.mnemonic_of-mnemonic.result c.values_of.result (written c.args.instr) c.kinds.ensures m.ensures c.values_of.ensures in
    let name = c.name.ensures ∙ ap (λ n. (row_of n).name) m.ensures in
    on_ok_weaker c.push_operands.result
    (λ e. after_name c.args.text.now.items c.push_word.new.text.items c.push_operands.new.text.items (row_of w.mnemonic).name (operand_texts (row_of w.mnemonic).kinds w.values)
    (c.in_ok-push_word.ensures ∙ ap (λ n. c.args.text.now.items ++ n) name) (e ∙ ap (λ ts. c.push_word.new.text.items ++ behind 32 ts) operands))
    c.push_operands.ensures

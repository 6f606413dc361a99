use Rattle.dk_asm.proofs.Imports.{◌∙◌, ap, sym, subst, FitPlaces, value_by, values_by, operands, row_of, with_values}
use Rattle.dk_asm.proofs.Encodings.{fit_words, values_are, registers_fit}
use Rattle.dk_asm.proofs.encoding.instruction_of.Goals as goal

pub value_at-requires : goal.value_at-requires
value_at-requires c = fit_words (value_by c.args.labels.now.places) (row_of c.args.mnemonic).kinds (operands c.args.operands.now) c.requires

pub value_at-requires-2 : goal.value_at-requires-2
value_at-requires-2 c = fit_words (value_by c.args.labels.now.places) (row_of c.args.mnemonic).kinds (operands c.args.operands.now) c.requires

pub value_at-requires-3 : goal.value_at-requires-3
value_at-requires-3 c = fit_words (value_by c.args.labels.now.places) (row_of c.args.mnemonic).kinds (operands c.args.operands.now) c.requires

pub instruction-requires : goal.instruction-requires
instruction-requires c =
    let are = values_are c.args.mnemonic (values_by c.args.labels.now.places c.args.operands.now) c.value_at.result c.value_at-2.result c.value_at-3.result
    c.requires
    c.value_at.ensures
    c.value_at-2.ensures
    c.value_at-3.ensures in
    subst (FitPlaces (row_of c.args.mnemonic).kinds) (sym are) c.requires

pub returns-clause-written : goal.returns-clause-written
returns-clause-written c =
    let are = values_are c.args.mnemonic (values_by c.args.labels.now.places c.args.operands.now) c.value_at.result c.value_at-2.result c.value_at-3.result
    c.requires
    c.value_at.ensures
    c.value_at-2.ensures
    c.value_at-3.ensures in
    c.instruction.ensures ∙ ap (with_values c.args.mnemonic) are

pub returns-clause-registers : goal.returns-clause-registers
returns-clause-registers c =
    let are = values_are c.args.mnemonic (values_by c.args.labels.now.places c.args.operands.now) c.value_at.result c.value_at-2.result c.value_at-3.result
    c.requires
    c.value_at.ensures
    c.value_at-2.ensures
    c.value_at-3.ensures in
    let is = c.instruction.ensures ∙ ap (with_values c.args.mnemonic) are in
    registers_fit c.instruction.result (subst (λ w. FitPlaces (row_of w.mnemonic).kinds w.values) (sym is) c.requires)

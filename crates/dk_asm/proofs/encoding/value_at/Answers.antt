use Rattle.dk_asm.proofs.Imports.{◌∙◌, ◌<◌, value_by, operand}
use Rattle.dk_asm.proofs.Encodings.{value_seen, each_at}
use Rattle.dk_asm.proofs.encoding.value_at.Goals as goal

pub value_of-requires : goal.value_of-requires
value_of-requires c = each_at (λ o. value_by c.args.labels.now.places o < 65536) operand c.args.operands.now c.args.place _ c.requires c.if-place-operands.true

pub returns-then-place-operands : goal.returns-then-place-operands
returns-then-place-operands c = c.value_of.ensures ∙ value_seen (value_by c.args.labels.now.places) operand c.args.operands.now c.args.place _ c.if-place-operands.true

use Rattle.dk_asm.proofs.Imports.{ap, sym, ◌++◌, option_map, seen_operands}
use Rattle.dk_asm.proofs.SomeReading.{no_kind}
use Rattle.dk_asm.proofs.operands.+operands_behind.Goals as goal

pub returns-in_default : goal.returns-in_default
returns-in_default t c = sym (ap (option_map (λ os. seen_operands c.args.operands.items ++ os)) (no_kind c.args.optional c.args.kinds.now c.args.text.now c.in_default.len_below))

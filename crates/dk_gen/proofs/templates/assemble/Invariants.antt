use Rattle.std.proofs.Common.{◌≡◌, take}
use Rattle.dk_gen.specs.Templates.{code_of}
use Rattle.dk_gen.proofs.templates.assemble.Given as goal

abbrev pub invariant-loop-instr : goal.invariant-loop-instr
invariant-loop-instr l = l.code.items ≡ code_of (take l.instr-index l.instrs)

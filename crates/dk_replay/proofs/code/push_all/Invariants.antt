use Rattle.std.proofs.Common.{◌≡◌, ◌++◌, take}
use Rattle.dk_replay.specs.Code.{code_of}
use Rattle.dk_replay.proofs.code.push_all.Given as goal

abbrev pub invariant-loop-instr : goal.invariant-loop-instr
invariant-loop-instr l = l.code.items ≡ l.initial.code.items ++ code_of (take l.instr-index l.instrs)

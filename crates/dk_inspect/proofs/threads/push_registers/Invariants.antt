use Rattle.dk_inspect.proofs.Names.{◌≡◌, ◌≤◌, ◌+◌, ◌*◌, ◌++◌, length, take, registers}
use Rattle.dk_inspect.proofs.threads.push_registers.Given as goal

abbrev pub invariant-loop-register : goal.invariant-loop-register
invariant-loop-register l =
    (l.text ≡ l.initial.text ++ registers (take l.register-index l.regs)) × (length l.text ≤ length l.initial.text + 11 * l.register-index)

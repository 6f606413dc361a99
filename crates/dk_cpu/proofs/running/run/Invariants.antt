use Rattle.dk_cpu.specs.State.{RunsFor}
use Rattle.dk_cpu.proofs.running.run.Given as goal

-- so many ticks are done
abbrev pub invariant-loop-done : goal.invariant-loop-done
invariant-loop-done l = RunsFor l.fn.cost l.fn.code l.done l.fn.context l.fn.memory l.context l.memory

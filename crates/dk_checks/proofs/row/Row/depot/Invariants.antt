use Rattle.std.proofs.Common.{◌≡◌}
use Rattle.dk_outside.specs.MemDepot.{mem_given}
use Rattle.dk_checks.proofs.row.Row.depot.Given as goal

-- no read so far
abbrev pub invariant-loop-file : goal.invariant-loop-file
invariant-loop-file l = mem_given l.depot ≡ 0

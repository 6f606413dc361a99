use Rattle.std.proofs.Common.{◌≤◌, length}
use Rattle.dk_checks.proofs.printing.level_of.Given as goal

-- each look puts down one thread at most
abbrev pub invariant-loop-index : goal.invariant-loop-index
invariant-loop-index g l = length l.ready.items ≤ l.index

use Rattle.std.proofs.Common.{◌≤◌, All, length}
use Rattle.dk_checks.proofs.run.codes_of.Given as goal

abbrev pub invariant-loop-program : goal.invariant-loop-program
invariant-loop-program l = All (λ code. length code ≤ 65536) l.codes.items

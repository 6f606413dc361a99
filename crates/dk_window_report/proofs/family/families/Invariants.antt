use Rattle.std.proofs.Common.{ℕ, ◌≡◌, List, []}
use Rattle.std.specs.Prelude.{replicate}
use Rattle.dk_window_report.proofs.family.families.Given as goal

abbrev pub invariant-loop-process : goal.invariant-loop-process
invariant-loop-process l = l.families.items ≡ replicate {A = List ℕ} l._process []

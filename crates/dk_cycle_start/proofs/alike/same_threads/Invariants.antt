use Rattle.dk_cycle_start.proofs.Names.{ℕ, ◌<◌, IsSameAt}
use Rattle.dk_cycle_start.proofs.alike.same_threads.Given as goal

abbrev pub invariant-loop-place : goal.invariant-loop-place
invariant-loop-place l = (i : ℕ) → i < l.place → IsSameAt l.early l.late l.process i

use Rattle.dk_picture.proofs.Names.{ℕ, ◌≡◌, ◌<◌, length, HasBound}
use Rattle.dk_picture.proofs.promise.bounds_of.Given as goal

abbrev pub invariant-loop-process : goal.invariant-loop-process
invariant-loop-process l = record {
  count : length l.bounds.items ≡ l.process;
  so_far : (p : ℕ) → p < l.process → HasBound l.config l.bounds.items p;
}

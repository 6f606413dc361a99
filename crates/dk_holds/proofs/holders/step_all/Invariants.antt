use Rattle.std.proofs.Common.{ℕ, ◌≡◌, ◌<◌, ◌≤◌}
use Rattle.std.specs.Prelude.{slice_get, option_map}
use Rattle.dk_holds.specs.Holds.{behind}
use Rattle.dk_holds.proofs.holders.step_all.Given as goal

abbrev pub invariant-loop-mutex : goal.invariant-loop-mutex
invariant-loop-mutex l = record {
  done : (k : ℕ) → k < l.mutex → slice_get l.rows k ≡ option_map (behind k l.tick l.entry) (slice_get l.fn.rows k);
  left : (k : ℕ) → l.mutex ≤ k → slice_get l.rows k ≡ slice_get l.fn.rows k;
}

use Rattle.std.proofs.Common.{ℕ, ◌≡◌, ◌*◌, ◌<◌, ◌≤◌, ◌∷◌, length, drop, Some}
use Rattle.std.specs.Prelude.{slice_get}
use Rattle.dk_chain_ledger.specs.Tables.{IsTrackOf}
use Rattle.dk_chain_ledger.proofs.tables.track_of.Given as goal

abbrev pub invariant-loop-place : goal.invariant-loop-place
invariant-loop-place l = record {
  track : (q : ℕ) → slice_get (l.first ∷ l.rest) l.place ≡ Some q → IsTrackOf l.config l.entries q (drop l.place l.rest) l.track;
  size : length l.track.ends.items * l.track.ticks ≤ length l.entries;
  some : 0 < l.track.ticks;
}

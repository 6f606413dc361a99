use Rattle.std.proofs.Common.{◌≡◌, ℕ, ◌+◌, ◌*◌, ◌<◌, ◌≤◌, length}
use Rattle.dk_rail.specs.Links.{next, prev, owner}
use Rattle.dk_rail.proofs.rail.Rail.new.Given as goal

abbrev pub invariant-loop-end : goal.invariant-loop-end
invariant-loop-end l = record {
  ends : l.ends ≡ l.nodes + l.queues;
  covers : length l.block ≡ 2 * l.ends + l.nodes;
  closed : (i : ℕ) → l.nodes ≤ i → i < l.end → (next l.block i ≡ i) × (prev l.block l.ends i ≡ i);
  free : (x : ℕ) → x < l.nodes → owner l.block l.ends x ≡ 0;
}

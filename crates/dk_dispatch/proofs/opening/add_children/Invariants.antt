use Rattle.dk_dispatch.proofs.Names.{ℕ, ◌≡◌, ◌+◌, ◌*◌, ◌^◌, ◌≤◌, drop, get_or, length, children_at, AreKnown, is_between, shares_in}
use Rattle.dk_dispatch.proofs.opening.add_children.Given as goal

abbrev pub invariant-loop-index : goal.invariant-loop-index
invariant-loop-index l =
    let rows = children_at l.threads l.process in
    let left = drop l.index rows in
    record {
      known : AreKnown l.loans l.windows left;
      size : length l.sums ≡ length l.fn.sums;
      sums : (k : ℕ) → k ≤ l.last
          → get_or l.sums k 0 + shares_in l.loans l.windows (is_between k k) left ≡ get_or l.fn.sums k 0 + shares_in l.loans l.windows (is_between k k) rows;
      few : (k : ℕ) → get_or l.sums k 0 ≤ get_or l.fn.sums k 0 + l.index * 2 ^ 32;
    }

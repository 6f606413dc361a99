use Rattle.dk_dispatch.proofs.Names.{ℕ, ◌≡◌, ◌+◌, ◌-◌, ◌*◌, ◌^◌, ◌≤◌, get_or, length, MAX_LEVELS, MAX_THREADS, AreKnown, all_rows, is_between, rows_from, shares_in}
use Rattle.dk_dispatch.proofs.opening.shares_by_level.Given as goal

abbrev pub invariant-loop-process : goal.invariant-loop-process
invariant-loop-process l =
    let left = rows_from l.threads l.process (l.processes - l.process) in
    record {
      known : AreKnown l.loans l.windows left;
      size : length l.sums ≡ MAX_LEVELS;
      sums : (k : ℕ) → k ≤ l.last
          → get_or l.sums k 0 + shares_in l.loans l.windows (is_between k k) left ≡ shares_in l.loans l.windows (is_between k k) (all_rows l.threads);
      few : (k : ℕ) → get_or l.sums k 0 ≤ l.process * (MAX_THREADS * 2 ^ 32);
    }

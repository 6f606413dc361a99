use Rattle.dk_repeat_search.proofs.Names.{ℕ, ◌≡◌, ◌+◌, ◌<◌, ◌≤◌, get_or, length, map, WaitWatch, IsWaitWatch, watched_process}
use Rattle.dk_repeat_search.proofs.always.Watching.follow.Given as goal

abbrev pub invariant-loop-watch : goal.invariant-loop-watch
invariant-loop-watch g l = record {
  seen : (i : ℕ) (d : WaitWatch) → i < l.watch-index
      → IsWaitWatch l.fn.kernel.config l.fn.kernel.programs (l.fn.kernel.ticks + 1) (get_or l.watch-items i d);
  ahead : (i : ℕ) (d : WaitWatch) → i < length l.watch-items → l.watch-index ≤ i
      → IsWaitWatch l.fn.kernel.config l.fn.kernel.programs l.fn.kernel.ticks (get_or l.watch-items i d);
  same : map watched_process l.watch-items ≡ map watched_process l.initial.watch-items;
}

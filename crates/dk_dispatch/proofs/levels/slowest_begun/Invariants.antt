use Rattle.dk_dispatch.proofs.Names.{ℕ, ◌≡◌, ◌<◌, ◌≤◌, true, begins_at}
use Rattle.dk_dispatch.proofs.levels.slowest_begun.Given as goal

abbrev pub invariant-loop-level : goal.invariant-loop-level
invariant-loop-level l = (i : ℕ) → i < l.level → begins_at l.windows i ≡ true → i ≤ l.slowest

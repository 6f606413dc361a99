use Rattle.dk_mutex.proofs.Names.{◌≡◌, ◌<◌, ℕ, false, get_or, length, MAX_PROCESSES, is_user}
use Rattle.dk_mutex.proofs.row.users_of.Given as goal

abbrev pub invariant-loop-process : goal.invariant-loop-process
invariant-loop-process l = record {
  room : length l.users ≡ MAX_PROCESSES;
  filled : (k : ℕ) → k < l.process → get_or l.users k false ≡ is_user l.config l.mutex k;
}

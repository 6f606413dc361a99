use Rattle.dk_threads.proofs.Names.{◌≡◌, ◌-◌, find, unwrap_or, MAX_THREADS, numbers, free_slot}
use Rattle.dk_threads.proofs.Slots.{is_free}
use Rattle.dk_threads.proofs.family.free_slot.Given as goal

abbrev pub invariant-loop-slot : goal.invariant-loop-slot
invariant-loop-slot l = free_slot l.rows ≡ unwrap_or (find (is_free l.rows) (numbers l.slot (MAX_THREADS - l.slot))) 0

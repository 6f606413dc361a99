use Rattle.dk_threads.proofs.Names.{◌≡◌, drop, is_taken, rows_at}
use Rattle.dk_threads.proofs.rows.Rows.is_taken.Given as goal

abbrev pub invariant-loop-key : goal.invariant-loop-key
invariant-loop-key l =
    is_taken (rows_at l.self-inside.slab (drop l.key-index l.self-inside.keys.items)) l.slot
    ≡ is_taken (rows_at l.self-inside.slab l.self-inside.keys.items) l.slot

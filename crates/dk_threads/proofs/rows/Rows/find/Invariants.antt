use Rattle.dk_threads.proofs.Names.{◌≡◌, drop, find, is_row_of, rows_at}
use Rattle.dk_threads.proofs.rows.Rows.find.Given as goal

abbrev pub invariant-loop-key : goal.invariant-loop-key
invariant-loop-key l =
    find (is_row_of l.id) (rows_at l.self-inside.slab (drop l.key-index l.self-inside.keys.items))
    ≡ find (is_row_of l.id) (rows_at l.self-inside.slab l.self-inside.keys.items)

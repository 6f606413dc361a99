use Rattle.dk_threads.proofs.Names.{◌≡◌, drop, list_any, starts_at, rows_at}
use Rattle.dk_threads.proofs.rows.Rows.starts_at.Given as goal

abbrev pub invariant-loop-key : goal.invariant-loop-key
invariant-loop-key l =
    list_any (starts_at l.now) (rows_at l.self-inside.slab (drop l.key-index l.self-inside.keys.items))
    ≡ list_any (starts_at l.now) (rows_at l.self-inside.slab l.self-inside.keys.items)

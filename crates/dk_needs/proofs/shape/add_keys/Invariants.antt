use Rattle.std.proofs.Common.{◌≡◌, ◌++◌, drop}
use Rattle.toml.specs.View.{table_view}
use Rattle.dk_needs.specs.Shape.{keys_faults}
use Rattle.dk_needs.proofs.shape.add_keys.Given as goal

-- what is found, and what the keys that are left report
abbrev pub invariant-loop-key : goal.invariant-loop-key
invariant-loop-key l =
    l.found.items ++ keys_faults l.place l.needed (table_view l.table) (drop l.key-index l.keys)
    ≡ l.initial.found.items ++ keys_faults l.place l.needed (table_view l.table) l.keys

use Rattle.std.proofs.Common.{◌≡◌, ◌++◌, drop, flat_map, string_bytes}
use Rattle.toml.specs.View.{table_view}
use Rattle.dk_needs_report.specs.Found.{if_unknown}
use Rattle.dk_needs_report.proofs.found.add_unknown_keys.Given as goal

-- what is found so far, before the keys that are left
abbrev pub invariant-loop-key : goal.invariant-loop-key
invariant-loop-key l =
    l.found.items ++ flat_map (λ k. if_unknown l.fault (table_view l.table) (string_bytes k.now)) (drop l.key-index l.keys)
    ≡ l.initial.found.items ++ flat_map (λ k. if_unknown l.fault (table_view l.table) (string_bytes k.now)) l.keys

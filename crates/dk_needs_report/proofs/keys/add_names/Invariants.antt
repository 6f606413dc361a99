use Rattle.std.proofs.Common.{◌≡◌, ◌++◌, drop, flat_map, string_bytes}
use Rattle.dk_needs_report.specs.Reasons.{after_comma}
use Rattle.dk_needs_report.proofs.keys.add_names.Given as goal

-- the names so far, before those of the keys that are left
abbrev pub invariant-loop-key : goal.invariant-loop-key
invariant-loop-key l =
    string_bytes l.text ++ flat_map after_comma (drop l.key-index l.keys) ≡ string_bytes l.initial.text ++ flat_map after_comma l.keys

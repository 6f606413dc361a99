use Rattle.std.proofs.Common.{◌≡◌, ◌++◌, drop, flat_map, string_bytes}
use Rattle.dk_needs_text.specs.Unknown.{unknown_line}
use Rattle.dk_needs_text.proofs.unknown.add_lines.Given as goal

-- the lines so far, before those of what is left
abbrev pub invariant-loop-unknown : goal.invariant-loop-unknown
invariant-loop-unknown l =
    string_bytes l.text ++ flat_map (unknown_line l.needs) (drop l.unknown-index l.found)
    ≡ string_bytes l.initial.text ++ flat_map (unknown_line l.needs) l.found

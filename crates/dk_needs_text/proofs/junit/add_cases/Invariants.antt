use Rattle.std.proofs.Common.{◌≡◌, ◌++◌, drop, flat_map, string_bytes}
use Rattle.dk_needs_text.specs.Junit.{row_case}
use Rattle.dk_needs_text.proofs.junit.add_cases.Given as goal

-- the cases so far, before those of the rows that are left
abbrev pub invariant-loop-row : goal.invariant-loop-row
invariant-loop-row l =
    string_bytes l.text ++ flat_map (row_case l.names l.tick l.needs) (drop l.row-index l.rows)
    ≡ string_bytes l.initial.text ++ flat_map (row_case l.names l.tick l.needs) l.rows

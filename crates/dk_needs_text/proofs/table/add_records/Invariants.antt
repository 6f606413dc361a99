use Rattle.std.proofs.Common.{◌≡◌, ◌++◌, drop, flat_map, string_bytes}
use Rattle.dk_needs_text.specs.Csv.{row_record}
use Rattle.dk_needs_text.proofs.table.add_records.Given as goal

-- the lines so far, before those of the rows that are left
abbrev pub invariant-loop-row : goal.invariant-loop-row
invariant-loop-row l =
    string_bytes l.text ++ flat_map (row_record l.names l.needs) (drop l.row-index l.rows) ≡ string_bytes l.initial.text ++ flat_map (row_record l.names l.needs) l.rows

use Rattle.std.proofs.Common.{◌≡◌, ◌++◌, drop, flat_map}
use Rattle.dk_needs_run.specs.Rows.{decided_by}
use Rattle.dk_needs_run.proofs.rows.decided_rows.Given as goal

-- the rows so far, before those of the rows that are left
abbrev pub invariant-loop-row : goal.invariant-loop-row
invariant-loop-row l =
    l.rows.items ++ flat_map (decided_by l.needs l.run) (drop l.row-index l.before) ≡ flat_map (decided_by l.needs l.run) l.before

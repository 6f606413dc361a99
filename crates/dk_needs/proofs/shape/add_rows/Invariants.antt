use Rattle.std.proofs.Common.{◌≡◌, ◌++◌, drop}
use Rattle.toml.specs.View.{view}
use Rattle.dk_needs.specs.Shape.{from_row, row_faults}
use Rattle.dk_needs.proofs.shape.add_rows.Given as goal

-- what came so far, and what the rows that are left give
abbrev pub invariant-loop-row : goal.invariant-loop-row
invariant-loop-row l =
    l.found.items ++ from_row (λ k v. row_faults l.section k (view v)) l.row (drop l.row l.rows)
    ≡ l.initial.found.items ++ from_row (λ k v. row_faults l.section k (view v)) 0 l.rows

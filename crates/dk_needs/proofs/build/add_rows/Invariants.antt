use Rattle.std.proofs.Common.{◌≡◌, ◌++◌, drop}
use Rattle.toml.specs.View.{view}
use Rattle.dk_needs.specs.Reading.{need_row}
use Rattle.dk_needs.specs.Shape.{from_row}
use Rattle.dk_needs.proofs.build.add_rows.Given as goal

-- what came so far, and what the rows that are left give
abbrev pub invariant-loop-row : goal.invariant-loop-row
invariant-loop-row l =
    l.needs.items ++ from_row (λ k v. need_row l.section k (view v)) l.row (drop l.row l.rows)
    ≡ l.initial.needs.items ++ from_row (λ k v. need_row l.section k (view v)) 0 l.rows

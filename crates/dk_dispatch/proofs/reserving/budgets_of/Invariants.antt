use Rattle.dk_dispatch.proofs.Names.{◌≡◌, take, sum_by, ◌==◌, if◌then◌else◌}
use Rattle.dk_dispatch.proofs.reserving.budgets_of.Given as goal

abbrev pub invariant-loop-row : goal.invariant-loop-row
invariant-loop-row l = l.sum ≡ sum_by (λ row. if row.level == l.level then row.budget else 0) (take l.row-index l.processes)

use Rattle.dk_budget.proofs.Names.{◌≡◌, map, take, LevelRow}
use Rattle.dk_budget.proofs.loans.periods_of.Given as goal

abbrev pub invariant-loop-level : goal.invariant-loop-level
invariant-loop-level l = l.periods.items ≡ map (λ (row : LevelRow). row.period) (take l.level-index l.level-items)

-- What a level can need at most, in ticks: with these bounds no sum of the test passes 64 bits.
use Rattle.std.specs.Prelude.{ℕ, ◌+◌, ◌*◌}
use Rattle.dk_config.specs.declared.TheConstants.{MAX_LEVELS, MAX_PROCESSES, MAX_SPAN}

-- the budgets of a level's processes together, in one window of the level
abbrev pub most_budgets : ℕ
most_budgets = MAX_PROCESSES * MAX_SPAN

-- the release and the budgets of one level, in a window of a slower one
abbrev pub most_work : ℕ
most_work = (MAX_PROCESSES + 1) * MAX_SPAN * MAX_SPAN

-- the work of all levels, in a window of the slowest
abbrev pub most_demand : ℕ
most_demand = MAX_LEVELS * most_work

-- The next multiple of a period.
use Rattle.std.specs.Prelude.{ℕ, ◌+◌, ◌-◌, ◌*◌, ◌/◌}

-- the least multiple of the period that is n or more
abbrev pub round_up : ℕ → ℕ → ℕ
round_up n period = (n + (period - 1)) / period * period

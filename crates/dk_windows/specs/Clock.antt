-- The present tick, and the windows of the levels at it.
use Rattle.std.specs.Prelude.{ℕ, ◌+◌, ◌-◌, ◌%◌, Bool, ◌==◌, List, map, slice_get}
use Rattle.std.specs.Option.{option_map_or}
use Rattle.dk_config.specs.Configuration.{Configuration}

-- what contracts see of the windows: the present tick, and the period of each level
pub record Clock : Type 0 where
  pub tick : ℕ
  pub periods : List ℕ

abbrev pub periods_of : Configuration → List ℕ
periods_of c = map (λ row. row.period) c.levels

-- the clock of the configuration's levels at the tick
abbrev pub clock_at : Configuration → ℕ → Clock
clock_at c tick = record { tick = tick; periods = periods_of c }

-- the period of a level, and 0 where there is no such level
abbrev pub period_at : Clock → ℕ → ℕ
period_at w i = option_map_or (λ p. p) (slice_get w.periods i) 0

abbrev pub start_at : Clock → ℕ → ℕ
start_at w i = w.tick - w.tick % period_at w i

abbrev pub end_at : Clock → ℕ → ℕ
end_at w i = start_at w i + period_at w i

-- whether a window of the level begins at the present tick
abbrev pub begins_at : Clock → ℕ → Bool
begins_at w i = start_at w i == w.tick

-- the clock so many ticks later
abbrev pub passed : ℕ → Clock → Clock
passed count w = record w { tick = w.tick + count }

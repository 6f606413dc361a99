-- What is kept of a level's period.
use Rattle.std.specs.Prelude.{ℕ, ◌≡◌, ◌<◌, ◌≤◌, ◌^◌}
use Rattle.std.specs.Int.{div_ceil}
use Rattle.dk_config.specs.declared.TheConstants.{MAX_SPAN}

-- 2^72 over the length, rounded up
abbrev pub reciprocal_of : ℕ → ℕ
reciprocal_of ticks = div_ceil (2 ^ 72) ticks

-- a period of so many ticks, with its reciprocal
pub record IsPeriod (ticks scaled : ℕ) : Type 0 where
  pub positive : 0 < ticks
  pub short : ticks ≤ MAX_SPAN
  pub reciprocal : scaled ≡ reciprocal_of ticks

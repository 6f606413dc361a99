-- When demand cells are the recount of a past.
use Rattle.std.specs.Prelude.{ℕ, ◌≡◌, ◌+◌, ◌-◌, ◌<◌, ◌≤◌, List, length, map}
use Rattle.dk_config.specs.Configuration.{Configuration}
use Rattle.dk_config.specs.Sums.{below}
use Rattle.dk_config.specs.Windows.{window_end}
use Rattle.dk_windows.specs.Clock.{clock_at}
use Rattle.dk_trace.specs.declared.Entry.{Entry}
use Rattle.dk_trace.specs.Demand.{own_demand, remaining_demand}
use Rattle.dk_trace.specs.Holds.{blocking}
use Rattle.dk_demand.specs.Cells.{Cells}

-- f at each level of the configuration
abbrev pub each_level : Configuration → (ℕ → ℕ) → List ℕ
each_level c f = map f (below (length c.levels))

-- The windows are the configuration's at the present tick, and each level's cells are its demand and its
-- blocking by the past. The past may have the entry of the present tick already.
pub record IsRecount (c : Configuration) (past : List Entry) (d : Cells) : Type 0 where
  pub windows : d.windows ≡ clock_at c d.windows.tick
  pub own : d.own ≡ each_level c (own_demand c d.windows.tick past)
  pub remaining : d.remaining ≡ each_level c (remaining_demand c d.windows.tick past)
  pub blocking : d.blocking ≡ each_level c (blocking c past)

-- no level with work needs more ticks than its window has left
abbrev pub NoneIsLate : Configuration → ℕ → List Entry → Type 0
NoneIsLate c now past =
    (j : ℕ) → j < length c.levels → 0 < own_demand c now past j
    → remaining_demand c now past j + blocking c past j ≤ window_end c j now - now

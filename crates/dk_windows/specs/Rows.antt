-- The rows in which the windows are kept: each level's period, and where its window starts.
use Rattle.std.specs.Prelude.{ℕ, ◌≡◌, ◌-◌, ◌%◌, ◌<◌, ◌≤◌, List, map, slice_get, Some, if◌then◌else◌, ◌+◌, ◌==◌, Bool, false}
use Rattle.std.specs.Option.{option_map_or}
use Rattle.std.specs.Int.{◌∣◌}
use Rattle.dk_config.specs.declared.TheConstants.{MAX_SPAN}
use Rattle.dk_windows.specs.declared.row.Window.{Window}

-- the row is of the window that tick now lies in
pub record IsWindowAt (now : ℕ) (w : Window) : Type 0 where
  pub positive : 0 < w.period
  pub short : w.period ≤ MAX_SPAN
  pub start : w.start ≡ now - now % w.period

abbrev pub AreWindowsAt : ℕ → List Window → Type 0
AreWindowsAt now ws = (k : ℕ) (w : Window) → slice_get ws k ≡ Some w → IsWindowAt now w

-- the row at the next tick, which is next
abbrev pub moved : ℕ → Window → Window
moved next w = record { period = w.period; start = if w.start + w.period == next then next else w.start }

-- whether the window of the first level ends at the tick
abbrev pub first_ends_at : ℕ → List Window → Bool
first_ends_at tick ws = option_map_or (λ w. w.start + w.period == tick) (slice_get ws 0) false

-- each period is a multiple of the first
abbrev pub AreNested : List Window → Type 0
AreNested ws = (k : ℕ) (first w : Window) → slice_get ws 0 ≡ Some first → slice_get ws k ≡ Some w
    → first.period ∣ w.period

abbrev pub periods_in : List Window → List ℕ
periods_in ws = map (λ w. w.period) ws

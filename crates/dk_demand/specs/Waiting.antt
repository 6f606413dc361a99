-- Up to which tick the levels can wait, as long as no cell changes.
use Rattle.std.specs.Prelude.{ℕ, ◌≡◌, ◌<◌, ◌≤◌, false, None}
use Rattle.dk_demand.specs.Cells.{Cells, first_unfit, is_unfit}

-- the cells at another tick
abbrev pub at_tick : Cells → ℕ → Cells
at_tick d tick = record d { windows = record d.windows { tick = tick } }

-- the level is fit from the present tick on, before the given one
abbrev pub CanWaitBefore : ℕ → Cells → ℕ → Type 0
CanWaitBefore end d j = (tick : ℕ) → d.windows.tick ≤ tick → tick < end → is_unfit (at_tick d tick) j ≡ false

-- and so is each level
abbrev pub FitBefore : ℕ → Cells → Type 0
FitBefore end d = (tick : ℕ) → d.windows.tick ≤ tick → tick < end → first_unfit (at_tick d tick) ≡ None

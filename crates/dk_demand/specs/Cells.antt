-- The demand cells, and which levels could not wait a tick longer.
use Rattle.std.specs.Prelude.{ℕ, ◌≡◌, ◌+◌, ◌-◌, Bool, ◌&&◌, nat_lt, List, length, map, slice_index, Option}
use Rattle.std.specs.List.{find}
use Rattle.dk_config.specs.Configuration.{Configuration}
use Rattle.dk_config.specs.Sums.{below}
use Rattle.dk_windows.specs.Clock.{Clock, clock_at, end_at}
use Rattle.dk_demand.specs.Levels.{adjusted, at_level, between, by_level, from_level, less, set_to}

-- what contracts see of the demand: lists with an item for each level, and the windows
pub record Cells : Type 0 where
  -- the unfinished work of the level itself
  pub own : List ℕ
  -- what the levels up to it need before its window ends
  pub remaining : List ℕ
  -- how long slower holders can keep it waiting
  pub blocking : List ℕ
  pub windows : Clock

-- the list has an item for each level
abbrev pub HasEachLevel : Clock → List ℕ → Type 0
HasEachLevel w ns = length ns ≡ length w.periods

abbrev pub no_ticks : Configuration → List ℕ
no_ticks c = map (λ row. 0) c.levels

abbrev pub cells_at_start : Configuration → Cells
cells_at_start c = record { own = no_ticks c; remaining = no_ticks c; blocking = no_ticks c; windows = clock_at c 0 }

-- a window of the level begins: its three cells are set
abbrev pub released_cells : ℕ → ℕ → ℕ → ℕ → Cells → Cells
released_cells level own remaining blocking d = record d {
  own = by_level (at_level level (set_to own)) d.own;
  remaining = by_level (at_level level (set_to remaining)) d.remaining;
  blocking = by_level (at_level level (set_to blocking)) d.blocking;
}

-- the level has so much less to do, and each level that counts it
abbrev pub dropped_cells : ℕ → ℕ → Cells → Cells
dropped_cells level amount d =
    record d {
      own = by_level (at_level level (less amount)) d.own;
      remaining = by_level (from_level level (less amount)) d.remaining;
    }

-- what windows to come add to the level changes from lower to raise
abbrev pub future_cells : ℕ → ℕ → ℕ → Cells → Cells
future_cells level lower raise d = record d { remaining = by_level (at_level level (adjusted lower raise)) d.remaining }

-- what the levels from the first one up to but without the level wait for changes from before to after
abbrev pub held_cells : ℕ → ℕ → ℕ → ℕ → Cells → Cells
held_cells level first before after d =
    record d { blocking = by_level (between first level (adjusted before after)) d.blocking }

abbrev pub next_tick : Clock → Clock
next_tick w = record w { tick = w.tick + 1 }

-- whether the level has work and, after one more tick for somebody else, would not end it in time
abbrev pub is_unfit : Cells → ℕ → Bool
is_unfit d j =
    nat_lt 0 (slice_index d.own j)
    && nat_lt (end_at d.windows j - d.windows.tick) (slice_index d.remaining j + slice_index d.blocking j + 1)

abbrev pub first_unfit : Cells → Option ℕ
first_unfit d = find (is_unfit d) (below (length d.windows.periods))

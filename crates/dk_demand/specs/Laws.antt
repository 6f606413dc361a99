-- What the laws of the cells say, of every configuration and every past.
use Rattle.std.specs.Prelude.{ℕ, ◌≡◌, ◌<◌, List, slice_get, slice_index, is_none, length}
use Rattle.std.specs.List.{find}
use Rattle.std.specs.Option.{option_map}
use Rattle.dk_config.specs.Configuration.{Configuration}
use Rattle.dk_config.specs.Sums.{below}
use Rattle.dk_trace.specs.declared.Entry.{Entry}
use Rattle.dk_trace.specs.Demand.{fits, is_tight_at, own_demand, remaining_demand}
use Rattle.dk_trace.specs.Holds.{blocking}
use Rattle.dk_demand.specs.Levels.{by_level}
use Rattle.dk_demand.specs.Cells.{Cells, first_unfit}
use Rattle.dk_demand.specs.Recount.{each_level, IsRecount, NoneIsLate}

-- What a level has to do itself is the past's.
abbrev pub TellsOwn : Type 0
TellsOwn =
    (c : Configuration) (past : List Entry) (d : Cells) (j : ℕ) → IsRecount c past d → j < length c.levels
    → slice_index d.own j ≡ own_demand c d.windows.tick past j

-- What it and the faster ones have to do is the past's.
abbrev pub TellsRemaining : Type 0
TellsRemaining =
    (c : Configuration) (past : List Entry) (d : Cells) (j : ℕ) → IsRecount c past d → j < length c.levels
    → slice_index d.remaining j ≡ remaining_demand c d.windows.tick past j

-- For how long it may wait is the past's.
abbrev pub TellsBlocking : Type 0
TellsBlocking =
    (c : Configuration) (past : List Entry) (d : Cells) (j : ℕ) → IsRecount c past d → j < length c.levels
    → slice_index d.blocking j ≡ blocking c past j

-- Whether a tick of slack fits is the past's.
abbrev pub TellsFit : Type 0
TellsFit =
    (c : Configuration) (past : List Entry) (d : Cells) → IsRecount c past d
    → fits c d.windows.tick past ≡ is_none (first_unfit d)

-- The level that slack is denied for is the past's.
abbrev pub TellsDenied : Type 0
TellsDenied =
    (c : Configuration) (past : List Entry) (d : Cells) → IsRecount c past d → NoneIsLate c d.windows.tick past
    → first_unfit d ≡ find (is_tight_at c d.windows.tick past) (below (length c.levels))

-- What a change by levels does at one level.
abbrev pub ChangesAt : Type 0
ChangesAt =
    (f : ℕ → ℕ → ℕ) (ns : List ℕ) (j : ℕ) → slice_get (by_level f ns) j ≡ option_map (f j) (slice_get ns j)

-- It turns one recount of the levels into another where it does so at each level.
abbrev pub ChangesRecount : Type 0
ChangesRecount =
    (c : Configuration) (f : ℕ → ℕ → ℕ) (old new : ℕ → ℕ) → ((j : ℕ) → j < length c.levels → f j (old j) ≡ new j)
    → by_level f (each_level c old) ≡ each_level c new

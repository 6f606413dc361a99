-- The ticks of each level's window that no level up to it claimed, and where slack comes from by them.
use Rattle.std.specs.Prelude.{ℕ, ◌+◌, nat_lt, if◌then◌else◌, List, ◌++◌, length, map, take, drop, slice_index, Option, Some, None}
use Rattle.std.specs.Option.{option_map_or}
use Rattle.dk_config.specs.Sums.{below, first_of}
use Rattle.dk_trace.specs.declared.Source.{Source}

-- the numbers of the levels that did not claim a tick of the given level, or of nobody's
abbrev pub raised : Option ℕ → List ℕ → List ℕ
raised None unclaimed = unclaimed
raised (Some level) unclaimed = take level unclaimed

-- those numbers one higher, and all others as they were
abbrev pub counted : Option ℕ → List ℕ → List ℕ
counted None unclaimed = map (λ n. n + 1) unclaimed
counted (Some level) unclaimed = map (λ n. n + 1) (take level unclaimed) ++ drop level unclaimed

-- those numbers so much higher
abbrev pub counted_for : ℕ → Option ℕ → List ℕ → List ℕ
counted_for ticks None unclaimed = map (λ n. n + ticks) unclaimed
counted_for ticks (Some level) unclaimed = map (λ n. n + ticks) (take level unclaimed) ++ drop level unclaimed

abbrev pub overdrawn_at : List ℕ → List ℕ → ℕ → Option ℕ
overdrawn_at unclaimed spares j = if nat_lt (slice_index unclaimed j) (slice_index spares j) then None else Some j

-- where a tick of slack comes from: the spare of the timeline, else the first level that has used its spare up
abbrev pub source : List ℕ → List ℕ → Source
source unclaimed spares =
    option_map_or Source.Reclaimed (first_of (overdrawn_at unclaimed spares) (below (length spares))) Source.Timeline

-- Counters that run on and are never set back, and the marks ahead of them that are set once.
use Rattle.std.specs.Prelude.{ℕ, suc, ◌+◌, ◌-◌, ◌%◌, ◌^◌, List, sum, take, slice_index}
use Rattle.dk_demand.specs.Levels.{by_level}

-- how far a counter has to run yet to its mark, where both begin anew after 2 ^ 64
abbrev pub ahead : ℕ → ℕ → ℕ
ahead mark counter = (mark + (2 ^ 64 - counter % 2 ^ 64)) % 2 ^ 64

-- how far the counters of the level and of all faster ones have run
abbrev pub run_up_to : ℕ → List ℕ → ℕ
run_up_to level counters = sum (take (suc level) counters)

-- what each level's own mark says
abbrev pub own_by : List ℕ → List ℕ → List ℕ
own_by counters = by_level (λ j mark. ahead mark (slice_index counters j))

-- what each level's mark says of the level and of all faster ones
abbrev pub remaining_by : List ℕ → List ℕ → List ℕ
remaining_by counters = by_level (λ j mark. ahead mark (run_up_to j counters))

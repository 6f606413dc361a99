-- The ticks that are the last of a thread's budget in a window that it overran.
use Rattle.std.specs.Prelude.{ℕ, ◌≡◌, ◌==◌, Bool, false, List, slice_get, if◌then◌else◌}
use Rattle.std.specs.Option.{option_map_or}
use Rattle.std.specs.List.{list_any}
use Rattle.dk_config.specs.Sums.{sum_from}
use Rattle.dk_overrun_spans.specs.declared.overrun.Overrun.{Overrun}

-- whether tick t is one of them
abbrev pub is_last : List Overrun → ℕ → Bool
is_last os t = list_any (λ o. o.last == t) os

-- how many there are among so many ticks from tick s on
abbrev pub overran_in : List Overrun → ℕ → ℕ → ℕ
overran_in os s count = sum_from s count (λ t. if is_last os t then 1 else 0)

-- the mark of tick t
abbrev pub is_marked : List Bool → ℕ → Bool
is_marked marks t = option_map_or (λ b. b) (slice_get marks t) false

-- a mark at each of them, and at no other tick
abbrev pub AreMarks : List Overrun → List Bool → Type 0
AreMarks os marks = (t : ℕ) → is_marked marks t ≡ is_last os t

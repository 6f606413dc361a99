-- Counters of ticks that run on and are never set back, and what they have run since the marks that were set.
use Rattle.std.specs.Prelude.{ℕ, suc, ◌≡◌, ◌+◌, ◌-◌, ◌%◌, ◌^◌, List, [], ◌∷◌, length, sum, drop}

-- how far a counter has run since the mark, where both begin anew after 2 ^ 32
abbrev pub since : ℕ → ℕ → ℕ
since mark counter = (counter + (2 ^ 32 - mark % 2 ^ 32)) % 2 ^ 32

-- the ticks of nobody and of all slower levels
abbrev pub run_of_slower : ℕ → ℕ → List ℕ → ℕ
run_of_slower level nobodys counters = nobodys + sum (drop (suc level) counters)

-- those of each level since its mark
abbrev pub unclaimed_by : ℕ → List ℕ → List ℕ → List ℕ
unclaimed_by nobodys [] marks = []
unclaimed_by nobodys (count ∷ counters) [] = []
unclaimed_by nobodys (count ∷ counters) (mark ∷ marks) =
    since mark (nobodys + sum counters) ∷ unclaimed_by nobodys counters marks

-- each level has a counter and a mark
pub record AreCounters (counters marks spares : List ℕ) : Type 0 where
  pub counted : length counters ≡ length spares
  pub marked : length marks ≡ length spares

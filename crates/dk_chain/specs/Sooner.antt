-- What always comes before the first job of a chain may be taken off its reaction time.
use Rattle.std.specs.Prelude.{ℕ, ◌≡◌, ◌+◌, ◌%◌, ◌≤◌, List, ◌∷◌, length}
use Rattle.dk_config.specs.Configuration.{Configuration}
use Rattle.dk_config.specs.Sums.{sum_up_to}
use Rattle.dk_config.specs.Windows.{main_level, release}
use Rattle.dk_trace.specs.declared.Entry.{Entry}
use Rattle.dk_trace.specs.Guarantees.{past_at}
use Rattle.dk_chain.specs.InOrder.{HasBegun}
use Rattle.dk_chain.specs.Chain.{AreDone, AreThere, IsReaction, GoesOn, window_length}

-- the kernel's own work of the levels up to that of p, which comes first in each window of p
abbrev pub releases_before : Configuration → ℕ → ℕ
releases_before c p = sum_up_to (main_level c p) (release c)

-- the job of p in the window from s has not begun by tick u
abbrev pub IsUnbegun : Configuration → List Entry → ℕ → ℕ → ℕ → Type 0
IsUnbegun c past u p s = HasBegun c (past_at past u) p s → ⊥

-- The chain answers an event at tick u by tick `end`, with a job of p that has not begun by then.
abbrev pub Catches : Configuration → List Entry → ℕ → ℕ → ℕ → List ℕ → Type 0
Catches c past end u p rest = (s : ℕ) × (s % window_length c p ≡ 0) × IsUnbegun c past u p s × GoesOn c past end p s rest

-- Each event that comes up to so many ticks later as the kernel's own work takes is answered by the same tick: its reaction time is by
-- so much shorter, where the first job need not be of a window that starts at the event or after, but has not begun before it.
abbrev pub ReactsSooner : Configuration → List Entry → Type 0
ReactsSooner c past =
    (done : ℕ → ℕ) (p : ℕ) (rest : List ℕ) (reaction t u : ℕ) → AreDone c done → AreThere c (p ∷ rest) → IsReaction c done (p ∷ rest) reaction
    → t + reaction ≤ length past → u ≤ t + releases_before c p → Catches c past (t + reaction) u p rest

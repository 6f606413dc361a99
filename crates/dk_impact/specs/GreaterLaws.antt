-- The laws of a process that is given a greater budget.
use Rattle.std.specs.Prelude.{ℕ, ◌+◌, ◌*◌, ◌≡◌, ◌<◌, Bool, true, List, [], map, take, slice_index_or}
use Rattle.dk_config.specs.Configuration.{Configuration}
use Rattle.dk_config.specs.Checked.{IsChecked, IsAccepted}
use Rattle.dk_config.specs.Windows.{period, main_level}
use Rattle.dk_trace.specs.declared.Entry.{Entry}
use Rattle.dk_world.specs.Run.{world}
use Rattle.dk_alone.specs.Alone.{alone, entries_of, KeepsToItself}
use Rattle.dk_alone.specs.Again.{WindowBegins, ProcessStandsAgain, own_window}
use Rattle.dk_impact.specs.Impact.{IsSameAcross, renamed}
use Rattle.dk_impact.specs.Greater.{GivesNoLess, has_enough}

-- By itself a process is the same where the k-th window of it begins in each configuration that gives it no less, where each window
-- before has enough: with a greater budget and at another rate it does in each window what it did.
abbrev pub AloneIsTheSameWithMore : Type 0
AloneIsTheSameWithMore =
    (c c' : Configuration) (program : List ℕ) (p p' k : ℕ) → IsChecked c → IsAccepted c → IsChecked c' → IsAccepted c'
    → KeepsToItself c p program → KeepsToItself c' p' program
    → GivesNoLess c p c' p' program
    → ((j : ℕ) → j < k
    → has_enough p (entries_of p (take (period c (main_level c p)) (alone c p program (j * period c (main_level c p) + period c (main_level c p))).past)) ≡ true)
    → IsSameAcross p p' (alone c p program (k * period c (main_level c p))) (alone c' p' program (k * period c' (main_level c' p')))

-- so it is in every run, whatever else changes
abbrev pub GreaterBudgetsHaveNoImpact : Type 0
GreaterBudgetsHaveNoImpact =
    (c c' : Configuration) (programs others : List (List ℕ)) (p p' k : ℕ)
    → IsChecked c → IsAccepted c → IsChecked c' → IsAccepted c'
    → KeepsToItself c p (slice_index_or programs p []) → KeepsToItself c' p' (slice_index_or others p' [])
    → slice_index_or programs p [] ≡ slice_index_or others p' []
    → GivesNoLess c p c' p' (slice_index_or programs p [])
    → ((j : ℕ) → j < k → has_enough p (own_window c programs p (j * period c (main_level c p))) ≡ true)
    → IsSameAcross p p' (world c programs (k * period c (main_level c p))) (world c' others (k * period c' (main_level c' p')))

-- and the k-th window of the one has the entries of it that the k-th window of the other has
abbrev pub WindowsAreTheSameWithMore : Type 0
WindowsAreTheSameWithMore =
    (c c' : Configuration) (programs others : List (List ℕ)) (p p' k : ℕ)
    → IsChecked c → IsAccepted c → IsChecked c' → IsAccepted c'
    → KeepsToItself c p (slice_index_or programs p []) → KeepsToItself c' p' (slice_index_or others p' [])
    → slice_index_or programs p [] ≡ slice_index_or others p' []
    → GivesNoLess c p c' p' (slice_index_or programs p [])
    → ((j : ℕ) → j < k + 1 → has_enough p (own_window c programs p (j * period c (main_level c p))) ≡ true)
    → map (renamed p') (own_window c programs p (k * period c (main_level c p)))
    ≡ own_window c' others p' (k * period c' (main_level c' p'))

-- So what the first windows of one run tell, up to two ticks at which it stands alike, and of which each has enough, is told of every window of every run of every configuration that gives it no less.
abbrev pub FirstWindowsTellWithMore : Type 0
FirstWindowsTellWithMore =
    (c c' : Configuration) (programs others : List (List ℕ)) (p p' s k : ℕ) (holds : List Entry → Bool)
    → IsChecked c → IsAccepted c → IsChecked c' → IsAccepted c'
    → KeepsToItself c p (slice_index_or programs p []) → KeepsToItself c' p' (slice_index_or others p' [])
    → slice_index_or programs p [] ≡ slice_index_or others p' []
    → GivesNoLess c p c' p' (slice_index_or programs p [])
    → ProcessStandsAgain c programs p s k
    → ((tick : ℕ) → WindowBegins c p tick → tick < s + k → has_enough p (own_window c programs p tick) ≡ true)
    → ((tick : ℕ) → WindowBegins c p tick → tick < s + k → holds (map (renamed p') (own_window c programs p tick)) ≡ true)
    → (tick : ℕ) → WindowBegins c' p' tick → holds (own_window c' others p' tick) ≡ true

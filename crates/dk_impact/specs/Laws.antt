-- The laws of a process in two configurations.
use Rattle.std.specs.Prelude.{ℕ, ◌+◌, ◌*◌, ◌%◌, ◌≡◌, ◌<◌, Bool, true, List, [], map, take, slice_index_or}
use Rattle.dk_config.specs.Configuration.{Configuration}
use Rattle.dk_config.specs.Checked.{IsChecked, IsAccepted}
use Rattle.dk_config.specs.Windows.{period, main_level}
use Rattle.dk_trace.specs.declared.Entry.{Entry}
use Rattle.dk_world.specs.Run.{trace, world}
use Rattle.dk_alone.specs.Alone.{alone, entries_of, KeepsToItself}
use Rattle.dk_alone.specs.Again.{WindowBegins, ProcessStandsAgain, own_window}
use Rattle.dk_impact.specs.Impact.{SeesTheSame, SeesTheSameButPeriod, IsSameAcross, renamed}

-- by itself a process is the same in each configuration of which it sees the same, at every tick
abbrev pub AloneIsTheSameAcross : Type 0
AloneIsTheSameAcross =
    (c c' : Configuration) (program : List ℕ) (p p' n : ℕ) → IsChecked c → IsChecked c'
    → KeepsToItself c p program → KeepsToItself c' p' program → SeesTheSame c p c' p' program
    → IsSameAcross p p' (alone c p program n) (alone c' p' program n)

-- so whatever else changes, in the configuration and in the programs of the others, changes nothing of it at any multiple of
-- its period
abbrev pub ChangesOfOthersHaveNoImpact : Type 0
ChangesOfOthersHaveNoImpact =
    (c c' : Configuration) (programs others : List (List ℕ)) (p p' n : ℕ)
    → IsChecked c → IsAccepted c → IsChecked c' → IsAccepted c'
    → KeepsToItself c p (slice_index_or programs p []) → KeepsToItself c' p' (slice_index_or others p' [])
    → slice_index_or programs p [] ≡ slice_index_or others p' []
    → SeesTheSame c p c' p' (slice_index_or programs p [])
    → n % period c (main_level c p) ≡ 0 → IsSameAcross p p' (world c programs n) (world c' others n)

-- and in any whole windows of its level it has the same entries in both
abbrev pub WindowsAreTheSameAcross : Type 0
WindowsAreTheSameAcross =
    (c c' : Configuration) (programs others : List (List ℕ)) (p p' t n : ℕ)
    → IsChecked c → IsAccepted c → IsChecked c' → IsAccepted c'
    → KeepsToItself c p (slice_index_or programs p []) → KeepsToItself c' p' (slice_index_or others p' [])
    → slice_index_or programs p [] ≡ slice_index_or others p' []
    → SeesTheSame c p c' p' (slice_index_or programs p []) → WindowBegins c p t → WindowBegins c p (t + n)
    → map (renamed p') (entries_of p (take n (trace c programs (t + n)))) ≡ entries_of p' (take n (trace c' others (t + n)))

-- so the windows of one run of it up to two ticks at which it stands alike tell of every window of every run, of every
-- configuration of which it sees the same: what holds of its entries in each of them holds of those in each window there will be
abbrev pub FirstWindowsTellAcross : Type 0
FirstWindowsTellAcross =
    (c c' : Configuration) (programs others : List (List ℕ)) (p p' s k : ℕ) (holds : List Entry → Bool)
    → IsChecked c → IsAccepted c → IsChecked c' → IsAccepted c'
    → KeepsToItself c p (slice_index_or programs p []) → KeepsToItself c' p' (slice_index_or others p' [])
    → slice_index_or programs p [] ≡ slice_index_or others p' []
    → SeesTheSame c p c' p' (slice_index_or programs p [])
    → ProcessStandsAgain c programs p s k
    → ((tick : ℕ) → WindowBegins c p tick → tick < s + k → holds (map (renamed p') (own_window c programs p tick)) ≡ true)
    → (tick : ℕ) → WindowBegins c' p' tick → holds (own_window c' others p' tick) ≡ true

-- By itself a process is the same where the k-th window of it begins in each configuration of which it sees the same but the
-- period: at another rate it does in each window what it did.
abbrev pub AloneIsTheSameAtAnyPeriod : Type 0
AloneIsTheSameAtAnyPeriod =
    (c c' : Configuration) (program : List ℕ) (p p' k : ℕ) → IsChecked c → IsAccepted c → IsChecked c' → IsAccepted c'
    → KeepsToItself c p program → KeepsToItself c' p' program → SeesTheSameButPeriod c p c' p' program
    → IsSameAcross p p' (alone c p program (k * period c (main_level c p))) (alone c' p' program (k * period c' (main_level c' p')))

-- so it is in every run, whatever else changes
abbrev pub ChangesOfPeriodHaveNoImpact : Type 0
ChangesOfPeriodHaveNoImpact =
    (c c' : Configuration) (programs others : List (List ℕ)) (p p' k : ℕ)
    → IsChecked c → IsAccepted c → IsChecked c' → IsAccepted c'
    → KeepsToItself c p (slice_index_or programs p []) → KeepsToItself c' p' (slice_index_or others p' [])
    → slice_index_or programs p [] ≡ slice_index_or others p' []
    → SeesTheSameButPeriod c p c' p' (slice_index_or programs p [])
    → IsSameAcross p p' (world c programs (k * period c (main_level c p))) (world c' others (k * period c' (main_level c' p')))

-- and the k-th window of the one has the entries of it that the k-th window of the other has
abbrev pub WindowsAreTheSameAtAnyPeriod : Type 0
WindowsAreTheSameAtAnyPeriod =
    (c c' : Configuration) (programs others : List (List ℕ)) (p p' k : ℕ)
    → IsChecked c → IsAccepted c → IsChecked c' → IsAccepted c'
    → KeepsToItself c p (slice_index_or programs p []) → KeepsToItself c' p' (slice_index_or others p' [])
    → slice_index_or programs p [] ≡ slice_index_or others p' []
    → SeesTheSameButPeriod c p c' p' (slice_index_or programs p [])
    → map (renamed p') (own_window c programs p (k * period c (main_level c p)))
    ≡ own_window c' others p' (k * period c' (main_level c' p'))

-- So what the first windows of one run tell, up to two ticks at which it stands alike, is told of every window of every run of
-- every configuration of which it sees the same but the period.
abbrev pub FirstWindowsTellAtAnyPeriod : Type 0
FirstWindowsTellAtAnyPeriod =
    (c c' : Configuration) (programs others : List (List ℕ)) (p p' s k : ℕ) (holds : List Entry → Bool)
    → IsChecked c → IsAccepted c → IsChecked c' → IsAccepted c'
    → KeepsToItself c p (slice_index_or programs p []) → KeepsToItself c' p' (slice_index_or others p' [])
    → slice_index_or programs p [] ≡ slice_index_or others p' []
    → SeesTheSameButPeriod c p c' p' (slice_index_or programs p [])
    → ProcessStandsAgain c programs p s k
    → ((tick : ℕ) → WindowBegins c p tick → tick < s + k → holds (map (renamed p') (own_window c programs p tick)) ≡ true)
    → (tick : ℕ) → WindowBegins c' p' tick → holds (own_window c' others p' tick) ≡ true

-- A process that has enough in each of its windows, for ever.
use Rattle.std.specs.Prelude.{ℕ, ◌*◌, ◌≡◌, true, false, List, [], map, slice_index_or}
use Rattle.dk_config.specs.Configuration.{Configuration}
use Rattle.dk_config.specs.Checked.{IsChecked, IsAccepted}
use Rattle.dk_config.specs.Windows.{period, main_level}
use Rattle.dk_world.specs.Run.{world}
use Rattle.dk_alone.specs.Alone.{KeepsToItself}
use Rattle.dk_alone.specs.Again.{WindowBegins, own_window, overruns, window_from}
use Rattle.dk_impact.specs.Impact.{IsSameAcross, LocksNothing, renamed}
use Rattle.dk_impact.specs.Greater.{GivesNoLess, has_enough}

-- in every run in which it has this program its main waits or is stopped in each window in which it has ticks of its budget
pub record NeverOverrunsWith (c : Configuration) (p : ℕ) (program : List ℕ) : Type 0 where
  pub never : (programs : List (List ℕ)) (tick : ℕ) → slice_index_or programs p [] ≡ program → WindowBegins c p tick
      → overruns p (window_from c programs p tick) ≡ false

-- in every run in which it has this program each of its windows has enough
pub record AlwaysHasEnough (c : Configuration) (p : ℕ) (program : List ℕ) : Type 0 where
  pub enough : (programs : List (List ℕ)) (tick : ℕ) → slice_index_or programs p [] ≡ program → WindowBegins c p tick
      → has_enough p (own_window c programs p tick) ≡ true

-- In any run of the one configuration and any of the other it is the same where its k-th window begins, and has the same entries in
-- it, for ever.
pub record IsSameForEver (c : Configuration) (p : ℕ) (c' : Configuration) (p' : ℕ) (program : List ℕ) : Type 0 where
  pub same : (programs others : List (List ℕ)) (k : ℕ) → slice_index_or programs p [] ≡ program → slice_index_or others p' [] ≡ program
      → IsSameAcross p p' (world c programs (k * period c (main_level c p))) (world c' others (k * period c' (main_level c' p')))
  pub windows : (programs others : List (List ℕ)) (k : ℕ) → slice_index_or programs p [] ≡ program → slice_index_or others p' [] ≡ program
      → map (renamed p') (own_window c programs p (k * period c (main_level c p)))
      ≡ own_window c' others p' (k * period c' (main_level c' p'))

-- a process that locks nothing is refused no lock: where it never overruns, it always has enough
abbrev pub LocksNothingHasEnough : Type 0
LocksNothingHasEnough =
    (c : Configuration) (p : ℕ) (program : List ℕ) → IsChecked c → IsAccepted c → KeepsToItself c p program
    → LocksNothing program → NeverOverrunsWith c p program → AlwaysHasEnough c p program

-- and where it always has enough, it is the same for ever in each configuration that gives it no less
abbrev pub EnoughIsTheSameForEver : Type 0
EnoughIsTheSameForEver =
    (c c' : Configuration) (p p' : ℕ) (program : List ℕ) → IsChecked c → IsAccepted c → IsChecked c' → IsAccepted c'
    → KeepsToItself c p program → KeepsToItself c' p' program
    → GivesNoLess c p c' p' program → AlwaysHasEnough c p program → IsSameForEver c p c' p' program

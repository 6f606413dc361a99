-- Ticks that change no search of a run.
use Rattle.std.specs.Prelude.{ℕ, ◌≡◌, ◌+◌, ◌++◌, List, None, replicate}
use Rattle.dk_config.specs.Configuration.{Configuration}
use Rattle.dk_config.specs.Checked.{IsChecked, IsAccepted}
use Rattle.dk_trace.specs.declared.Label.{Label}
use Rattle.dk_trace.specs.Entries.{quiet}
use Rattle.dk_world.specs.Run.{trace}
use Rattle.dk_repeat.specs.Reading.{caller}
use Rattle.dk_cycle.specs.declared.run.RunSearch.{RunSearch}
use Rattle.dk_cycle.specs.declared.start.StartSearch.{StartSearch}
use Rattle.dk_cycle.specs.Run.{IsRunSearch}
use Rattle.dk_cycle.specs.Start.{IsStartSearch}

-- from the tick on so many go by with one label, in which nobody is at a kernel call and nothing happens
pub record GoQuietly (c : Configuration) (programs : List (List ℕ)) (tick many : ℕ) : Type 0 where
  pub label : Label
  pub nobody : caller label ≡ None
  pub entries : trace c programs (tick + many) ≡ replicate many (quiet label) ++ trace c programs tick

-- a search of the run before them is one after them
abbrev pub SearchesStay : Type 0
SearchesStay =
    (c : Configuration) (programs : List (List ℕ)) (tick many : ℕ) (search : RunSearch) → IsChecked c → IsAccepted c
    → GoQuietly c programs tick many → IsRunSearch c programs tick search → IsRunSearch c programs (tick + many) search

-- and so is one for the least start of a cycle
abbrev pub StartsStay : Type 0
StartsStay =
    (c : Configuration) (programs : List (List ℕ)) (tick many : ℕ) (search : StartSearch) → IsChecked c → IsAccepted c
    → GoQuietly c programs tick many → IsStartSearch c programs tick search → IsStartSearch c programs (tick + many) search

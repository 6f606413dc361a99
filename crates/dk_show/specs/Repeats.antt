-- What is told to repeat for ever in the run of a configuration with its programs.
use Rattle.std.specs.Prelude.{ℕ, ◌≡◌, Bool, true, false, List}
use Rattle.dk_loader.specs.Workload.{Workload}
use Rattle.dk_repeat_search.specs.Repeats.{IsRepeatsOf}
use Rattle.dk_show.specs.declared.status.Status.{Status}
use Rattle.dk_show.specs.declared.status.Status.TheVariants as status

-- where the run as a whole isn't told to repeat, the call ends as refused
abbrev pub repeats_end : Bool → Status
repeats_end true = status.Done
repeats_end false = status.Refused

-- what repeats, as is found in so many ticks
pub record IsOfRepeats (ticks : ℕ) (w : Workload) (text : List ℕ) (ended : Status) : Type 0 where
  pub whole : Bool
  pub told : IsRepeatsOf w ticks text whole
  pub ends : ended ≡ repeats_end whole

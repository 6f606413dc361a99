-- What repeats for ever in a run, and whether the run as a whole does.
use Rattle.std.specs.Prelude.{ℕ, ◌≡◌, ◌&&◌, nat_lt, if◌then◌else◌, Bool, List, Option, None, is_none, is_some, All}
use Rattle.dk_config.specs.declared.TheConstants.{MAX_RUN_TICKS}
use Rattle.dk_loader.specs.Workload.{Workload}
use Rattle.dk_cycle.specs.declared.Cycle.{Cycle}
use Rattle.dk_cycle.specs.declared.keeping.Keeping.TheVariants as kind
use Rattle.dk_cycle.specs.declared.made.Made.{Made}
use Rattle.dk_cycle.specs.declared.run.RunSearch.{RunSearch}
use Rattle.dk_cycle.specs.declared.told.OwnTold.{OwnTold}
use Rattle.dk_cycle.specs.declared.told.RunTold.{RunTold}
use Rattle.dk_cycle.specs.Made.{IsLastMade}
use Rattle.dk_cycle.specs.Run.{IsLastReader}
use Rattle.dk_cycle.specs.Seeking.{HasNoCycle, HasNoOwnCycle}
use Rattle.dk_repeat_report.specs.declared.own.OwnFound.{OwnFound}
use Rattle.dk_repeat_report.specs.Lines.{IsRepeats}

-- a cycle was found
abbrev pub repeats : RunTold → Bool
repeats told = is_none told.reader && is_some told.cycle

-- the ticks that a search takes
abbrev pub searched_ticks : ℕ → ℕ
searched_ticks ticks = if nat_lt ticks MAX_RUN_TICKS then ticks else MAX_RUN_TICKS

-- A thread of this process read the tick last in so many ticks, or nobody did; and this child was made last in them, or none was.
pub record AreLast (w : Workload) (ticks : ℕ) (reader : Option ℕ) (made : Option Made) : Type 0 where
  pub reader_is : IsLastReader w.config w.programs ticks reader
  pub made_is : IsLastMade w.config w.programs ticks made

-- so it is where a search found no cycle
abbrev pub KnowsLast : Workload → ℕ → RunSearch → Type 0
KnowsLast w ticks search = search.cycle ≡ None → AreLast w ticks search.reader search.made

-- and there none was to be found in so many ticks
abbrev pub RunHasNoneToFind : Workload → ℕ → Option Cycle → Type 0
RunHasNoneToFind w ticks cycle = cycle ≡ None → HasNoCycle w.config w.programs ticks

-- of a process that keeps to itself, and of which no cycle is told, none was to be found in so many ticks
abbrev pub HasNoneToFind : Workload → ℕ → OwnTold → Type 0
HasNoneToFind w ticks told = told.keeping ≡ kind.Keeps → told.cycle ≡ None → HasNoOwnCycle w.config w.programs told.process ticks

abbrev pub NoneWasToFind : Workload → ℕ → List OwnFound → Type 0
NoneWasToFind w ticks own = All (λ f. HasNoneToFind w ticks f.told) own

-- the text tells what repeats for ever, and whether the run as a whole does; where it doesn't, who read the tick last, and which
-- child was made last; and of the run, and of a process by itself, it tells a cycle where one was to be found
pub record IsRepeatsOf (w : Workload) (ticks : ℕ) (text : List ℕ) (whole : Bool) : Type 0 where
  pub is : IsRepeats w.config w.programs ticks text
  pub whole_is : whole ≡ repeats is.run
  pub last : is.run.cycle ≡ None → AreLast w (searched_ticks ticks) is.run.reader is.run.made
  pub none : NoneWasToFind w (searched_ticks ticks) is.own
  pub no_cycle : RunHasNoneToFind w (searched_ticks ticks) is.run.cycle

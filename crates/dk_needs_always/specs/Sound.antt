-- What rows that ask of all ticks are told met and missed for.
use Rattle.std.specs.Prelude.{ℕ, ◌≡◌, ◌<◌, true, List, Option, Some, slice_get}
use Rattle.dk_config.specs.Configuration.{Configuration}
use Rattle.dk_loader.specs.Workload.{Workload}
use Rattle.dk_alone.specs.Again.{WindowBegins}
use Rattle.dk_chain_report.specs.Finding.{process_named}
use Rattle.dk_cycle.specs.Repeating.{RepeatsForEver}
use Rattle.dk_cycle.specs.Waiting.{HasProgram, WaitsFirstNot, waits_in}
use Rattle.dk_needs.specs.declared.needs.Need.{Need}
use Rattle.dk_needs.specs.declared.needs.What.{What}
use Rattle.dk_needs_check.specs.declared.row.Answer.{Answer}
use Rattle.dk_needs_check.specs.declared.row.Reason.{Reason}
use Rattle.dk_needs_check.specs.declared.row.Repeating.{Repeating}
use Rattle.dk_needs_check.specs.declared.row.Row.{Row}
use Rattle.dk_needs_check.specs.declared.row.Verdict.{Verdict}
use Rattle.dk_needs_check.specs.declared.row.Waiting.{Waiting}
use Rattle.dk_needs_check.specs.Bounds.{verdict_of}
use Rattle.dk_repeat_search.specs.declared.always.Always.{Always}
use Rattle.dk_needs_always.specs.Deciding.{decided_by}

-- the process's main waits in each of its windows, in every run in which it has this program, whatever programs the others have
abbrev pub WaitsInEach : Workload → ℕ → Type 0
WaitsInEach w p =
    (others : List (List ℕ)) (tick : ℕ) → HasProgram w.programs others p → WindowBegins w.config p tick
    → waits_in w.config others p tick ≡ true

-- a window of it begins at the tick, the first in which it doesn't wait, in each of these runs
abbrev pub WaitsNotFrom : Workload → ℕ → ℕ → Type 0
WaitsNotFrom w p tick = WaitsFirstNot w.config w.programs p tick

-- the row asks whether the process of this number waits in each of its windows, and isn't decided
pub record AsksWaits (c : Configuration) (needs : List Need) (row : Row) (p : ℕ) : Type 0 where
  pub need : Need
  pub name : List ℕ
  pub there : slice_get needs row.need ≡ Some need
  pub what : need.what ≡ What.Always name
  pub process : process_named c name ≡ Some p
  pub untold : row.answer ≡ Answer.Open Reason.NotTested

-- the row asks whether the run repeats, and isn't decided
pub record AsksRepeats (needs : List Need) (row : Row) : Type 0 where
  pub need : Need
  pub overruns : Option ℕ
  pub refused : Option ℕ
  pub faults : Option ℕ
  pub there : slice_get needs row.need ≡ Some need
  pub what : need.what ≡ What.Run overruns refused faults true
  pub untold : row.answer ≡ Answer.Open Reason.NotTested

abbrev pub told : Workload → List Need → Always → Row → Answer
told w needs a row = (decided_by w.config needs a row).answer

-- A row of waits is told met only where the process waits in each of its windows, and missed only where it doesn't in the
-- window that is told, and in none before. A row of what repeats is told met only where the run repeats as is told.
pub record IsSound (w : Workload) (a : Always) : Type 0 where
  pub waits : (needs : List Need) (row : Row) (p : ℕ) → AsksWaits w.config needs row p → verdict_of (told w needs a row) ≡ Verdict.Met
      → WaitsInEach w p
  pub misses : (needs : List Need) (row : Row) (p : ℕ) → AsksWaits w.config needs row p → verdict_of (told w needs a row) ≡ Verdict.Missed
      → (tick : ℕ) × (told w needs a row ≡ Answer.Waits (Waiting.NotFrom tick)) × WaitsNotFrom w p tick
  pub repeats : (needs : List Need) (row : Row) → AsksRepeats needs row → verdict_of (told w needs a row) ≡ Verdict.Met
      → (start : ℕ) × (every : ℕ) × (told w needs a row ≡ Answer.Repeats (Repeating.Every start every))
      × (0 < every) × RepeatsForEver w.config w.programs start every

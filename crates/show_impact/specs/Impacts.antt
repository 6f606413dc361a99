-- What a change of the configuration does to each process.
use Rattle.std.specs.Prelude.{ℕ, zero, suc, ◌≡◌, ◌≢◌, ◌<◌, ◌≤◌, ◌⊎◌, Bool, true, false, List, [], ◌∷◌, ◌++◌, position, slice_index_or, Option, Some, None, length}
use Rattle.std.specs.List.{list_any}
use Rattle.std.specs.Str.{bytes_eq}
use Rattle.dk_config.specs.Configuration.{Configuration}
use Rattle.dk_config.specs.Windows.{budget, main_level, may_ask, period, process_name, slots}
use Rattle.dk_config.specs.Ahead.{IsEnough}
use Rattle.dk_loader.specs.Workload.{Workload}
use Rattle.dk_alone.specs.Alone.{KeepsToItself, ReadsNoTick}
use Rattle.dk_impact.specs.declared.change.Change.{Change}
use Rattle.dk_cycle.specs.declared.waiting.Waits.TheVariants as waits
use Rattle.dk_cycle.specs.Seeking.{HasNoOwnCycle}
use Rattle.dk_cycle.specs.Waiting.{IsWaits, WaitsFirstNot, WaitsSoFar}
use Rattle.dk_impact.specs.Changes.{AreAll}
use Rattle.dk_impact.specs.Enough.{AlwaysHasEnough}
use Rattle.dk_impact.specs.Greater.{GivesNoLess}
use Rattle.dk_impact.specs.Impact.{LocksNothing, SeesTheSame, SeesTheSameButPeriod}
use Rattle.dk_repeat_search.specs.Repeats.{searched_ticks}
use Rattle.show_impact.specs.declared.waiting.TheConstants.{WAIT_TICKS}
use Rattle.show_impact.specs.declared.row.Cause.{Cause}
use Rattle.show_impact.specs.declared.row.Impact.{Impact}
use Rattle.show_impact.specs.declared.row.Row.{Row}
use Rattle.show_impact.specs.declared.row.Waiting.{Waiting}

-- the program of the process
abbrev pub program_of : Workload → ℕ → List ℕ
program_of w p = slice_index_or w.programs p []

abbrev pub Keeps : Workload → ℕ → Type 0
Keeps w p = KeepsToItself w.config p (program_of w p)

-- the first cause for which nothing is promised of the process in this configuration, or none
abbrev pub IsCause : Workload → ℕ → Option Cause → Type 0
IsCause w p None = Keeps w p
IsCause w p (Some Cause.Threads) = 0 < slots w.config p
IsCause w p (Some Cause.Slack) = (slots w.config p ≡ 0) × (may_ask w.config p ≡ true)
IsCause w p (Some Cause.Clock) = (slots w.config p ≡ 0) × (may_ask w.config p ≡ false) × ¬ ReadsNoTick (program_of w p)

-- it stands in the old configuration, or else in the new
abbrev pub IsOpen : Workload → ℕ → Workload → ℕ → Cause → Type 0
IsOpen old p new q cause = IsCause old p (Some cause) ⊎ (Keeps old p × IsCause new q (Some cause))

-- the process, which is p of the old and q of the new, keeps to itself in both
pub record KeepsInBoth (old : Workload) (p : ℕ) (new : Workload) (q : ℕ) : Type 0 where
  pub before : Keeps old p
  pub now : Keeps new q

-- and it has the same program in both and sees the same of both
pub record IsSame (old : Workload) (p : ℕ) (new : Workload) (q : ℕ) : Type 0 where
  pub keeps : KeepsInBoth old p new q
  pub program : program_of old p ≡ program_of new q
  pub sees : SeesTheSame old.config p new.config q (program_of old p)

-- or it sees the same but the period of its level
pub record IsPeriodAlone (old : Workload) (p : ℕ) (new : Workload) (q : ℕ) : Type 0 where
  pub keeps : KeepsInBoth old p new q
  pub program : program_of old p ≡ program_of new q
  pub sees : SeesTheSameButPeriod old.config p new.config q (program_of old p)
  pub differs : ¬ SeesTheSame old.config p new.config q (program_of old p)

-- or it is given no less
pub record IsGivenNoLess (old : Workload) (p : ℕ) (new : Workload) (q : ℕ) : Type 0 where
  pub keeps : KeepsInBoth old p new q
  pub program : program_of old p ≡ program_of new q
  pub gives : GivesNoLess old.config p new.config q (program_of old p)
  pub differs : ¬ SeesTheSameButPeriod old.config p new.config q (program_of old p)

-- its main waits in each of its windows, for ever, in every run in which it has this program
abbrev pub WaitsInEach : Workload → ℕ → Type 0
WaitsInEach w p = IsWaits w.config w.programs p (searched_ticks WAIT_TICKS) waits.Always

-- and its program locks nothing: each of its windows has enough
pub record HasEnoughInEach (w : Workload) (p : ℕ) : Type 0 where
  pub waits : WaitsInEach w p
  pub locks : LocksNothing (program_of w p)
  pub enough : AlwaysHasEnough w.config p (program_of w p)

-- or it may lock, and be refused a lock for want of budget
pub record MayWantForALock (w : Workload) (p : ℕ) : Type 0 where
  pub waits : WaitsInEach w p
  pub locks : ¬ LocksNothing (program_of w p)

-- or its main waits in each window so far, and no cycle of it was to be found
pub record WaitsWithoutACycle (w : Workload) (p : ℕ) : Type 0 where
  pub waits : WaitsSoFar w.config w.programs p (searched_ticks WAIT_TICKS)
  pub none : HasNoOwnCycle w.config w.programs p (searched_ticks WAIT_TICKS)

-- what is known of whether each of its windows has enough
abbrev pub IsWaiting : Workload → ℕ → Waiting → Type 0
IsWaiting w p Waiting.Always = HasEnoughInEach w p
IsWaiting w p (Waiting.NotFrom tick) = WaitsFirstNot w.config w.programs p tick
IsWaiting w p Waiting.NotWithin = WaitsWithoutACycle w p
IsWaiting w p Waiting.Locks = MayWantForALock w p

-- its windows are of the same length in both
abbrev pub HasOnePeriod : Workload → ℕ → Workload → ℕ → Type 0
HasOnePeriod old p new q = period old.config (main_level old.config p) ≡ period new.config (main_level new.config q)

-- or it is given a greater budget in windows of the same length, each of which has enough
pub record IsSameAsItWaits (old : Workload) (p : ℕ) (new : Workload) (q : ℕ) : Type 0 where
  pub given : IsGivenNoLess old p new q
  pub period : HasOnePeriod old p new q
  pub waits : HasEnoughInEach old p

-- or it is given no less, and not that
pub record IsSameIfItWaits (old : Workload) (p : ℕ) (new : Workload) (q : ℕ) (waiting : Waiting) : Type 0 where
  pub given : IsGivenNoLess old p new q
  pub waits : IsWaiting old p waiting
  pub period : waiting ≡ Waiting.Always → ¬ HasOnePeriod old p new q

-- what is the same as it waits isn't so only if it waits: neither where each window has enough nor where it may lock
pub record AreApart (old new : Workload) : Type 0 where
  pub always : (p q : ℕ) → IsSameAsItWaits old p new q → ¬ IsSameIfItWaits old p new q Waiting.Always
  pub locks : (p q : ℕ) → IsSameAsItWaits old p new q → ¬ IsSameIfItWaits old p new q Waiting.Locks

-- its evidence stands where it sees the same, or is the same as it waits
abbrev pub IsTheSame : Workload → ℕ → Workload → ℕ → Type 0
IsTheSame old p new q = IsSame old p new q ⊎ IsSameAsItWaits old p new q

-- or none of these
pub record IsChanged (old : Workload) (p : ℕ) (new : Workload) (q : ℕ) : Type 0 where
  pub keeps : KeepsInBoth old p new q
  pub program : program_of old p ≡ program_of new q
  pub differs : ¬ SeesTheSameButPeriod old.config p new.config q (program_of old p)
  pub less : ¬ GivesNoLess old.config p new.config q (program_of old p)

abbrev pub IsFound : Workload → ℕ → Workload → ℕ → Impact → Type 0
IsFound old p new q Impact.Same = IsSame old p new q
IsFound old p new q Impact.PeriodAlone = IsPeriodAlone old p new q
IsFound old p new q Impact.Waits = IsSameAsItWaits old p new q
IsFound old p new q (Impact.IfItWaits waiting) = IsSameIfItWaits old p new q waiting
IsFound old p new q Impact.Program = KeepsInBoth old p new q × (program_of old p ≢ program_of new q)
IsFound old p new q Impact.Changed = IsChanged old p new q
IsFound old p new q (Impact.Open cause) = IsOpen old p new q cause
IsFound old p new q Impact.New = ⊥

-- what is listed of what it sees change: all, where it keeps to itself, has the same program and doesn't see the same
abbrev pub AreChanges : Impact → Workload → ℕ → Workload → ℕ → List Change → Type 0
AreChanges Impact.PeriodAlone old p new q changes = AreAll old.config p new.config q (program_of old p) changes
AreChanges Impact.Waits old p new q changes = AreAll old.config p new.config q (program_of old p) changes
AreChanges (Impact.IfItWaits waiting) old p new q changes = AreAll old.config p new.config q (program_of old p) changes
AreChanges Impact.Changed old p new q changes = AreAll old.config p new.config q (program_of old p) changes
AreChanges Impact.Same old p new q changes = changes ≡ []
AreChanges Impact.Program old p new q changes = changes ≡ []
AreChanges (Impact.Open cause) old p new q changes = changes ≡ []
AreChanges Impact.New old p new q changes = changes ≡ []

-- the process of this name
abbrev pub place_of : Configuration → List ℕ → Option ℕ
place_of c name = position (λ row. bytes_eq row.name name) c.processes

-- so many ticks of its window are enough for the whole budget of the process's main, and no fewer
pub record IsDone (c : Configuration) (p done : ℕ) : Type 0 where
  pub reached : IsEnough c p (budget c p) done
  pub least : (m : ℕ) → IsEnough c p (budget c p) m → done ≤ m

-- what is found of process q of the new configuration, which was process p of the old
pub record IsRowThere (old : Workload) (p : ℕ) (new : Workload) (q : ℕ) (row : Row) : Type 0 where
  pub impact : IsFound old p new q row.impact
  pub changes : AreChanges row.impact old p new q row.changes.items
  pub before : IsDone old.config p row.before
  pub after : IsDone new.config q row.after

-- or which no process was
pub record IsRowNew (new : Workload) (q : ℕ) (row : Row) : Type 0 where
  pub impact : row.impact ≡ Impact.New
  pub changes : row.changes.items ≡ []
  pub before : row.before ≡ row.after
  pub after : IsDone new.config q row.after

abbrev pub IsRowAt : Option ℕ → Workload → Workload → ℕ → Row → Type 0
IsRowAt None old new q row = IsRowNew new q row
IsRowAt (Some p) old new q row = IsRowThere old p new q row

-- what is found of process q of the new configuration
abbrev pub IsRow : Workload → Workload → ℕ → Row → Type 0
IsRow old new q row = IsRowAt (place_of old.config (process_name new.config q)) old new q row

-- a row for each number below n, in their order
abbrev pub AreRows : Workload → Workload → ℕ → List Row → Type 0
AreRows old new zero rows = rows ≡ []
AreRows old new (suc n) rows =
    (before : List Row) × (row : Row) × AreRows old new n before × IsRow old new n row × (rows ≡ before ++ row ∷ [])

-- it sees the same
abbrev pub is_same : Impact → Bool
is_same Impact.Same = true
is_same _ = false

abbrev pub is_there : Configuration → List ℕ → Bool
is_there c name = list_any (λ row. bytes_eq row.name name) c.processes

abbrev pub is_named : List (List ℕ) → List ℕ → Bool
is_named names name = list_any (bytes_eq name) names

-- process q of the new configuration was there, and sees the same
abbrev pub IsKept : Workload → Workload → ℕ → Type 0
IsKept old new q = (p : ℕ) × (place_of old.config (process_name new.config q) ≡ Some p) × IsSame old p new q

-- The change touches none but the processes of these names: every other one of the new configuration was there and sees the
-- same, and every other one of the old is there still.
pub record TouchesOnly (names : List (List ℕ)) (old new : Workload) : Type 0 where
  pub kept : (q : ℕ) → q < length new.config.processes → is_named names (process_name new.config q) ≡ false → IsKept old new q
  pub there : (p : ℕ) → p < length old.config.processes → is_named names (process_name old.config p) ≡ false
      → is_there new.config (process_name old.config p) ≡ true

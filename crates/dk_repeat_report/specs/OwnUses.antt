-- What is counted of a cycle of a process by itself, and so of each of its cycles in every run.
use Rattle.std.specs.Prelude.{ℕ, ◌≡◌, ◌+◌, ◌*◌, List, [], Option, Some, None, slice_index_or}
use Rattle.dk_config.specs.Configuration.{Configuration}
use Rattle.dk_cycle.specs.declared.Cycle.{Cycle}
use Rattle.dk_cycle.specs.declared.keeping.Keeping.{Keeping}
use Rattle.dk_cycle.specs.declared.keeping.Keeping.TheVariants as kind
use Rattle.dk_cycle.specs.declared.own.OwnSearch.{OwnSearch}
use Rattle.dk_cycle.specs.declared.told.OwnTold.{OwnTold}
use Rattle.dk_cycle.specs.Own.{IsOwnSearch}
use Rattle.dk_cycle.specs.Told.{HasCycle, IsOwnTold, own_told}
use Rattle.dk_cycle_counts.specs.declared.process.ProcessUse.{ProcessUse}
use Rattle.dk_cycle_counts.specs.Process.{use_of}
use Rattle.dk_repeat_report.specs.declared.own.OwnFound.{OwnFound}
use Rattle.dk_repeat_report.specs.Cycles.{entries_from, share_at}

-- What is told of a process by itself is the same. (When in a window it is done isn't: the others may come before it.)
pub record IsSameOwn (one other : ProcessUse) : Type 0 where
  pub windows : one.main.counts.windows ≡ other.main.counts.windows
  pub waited : one.main.counts.waited ≡ other.main.counts.waited
  pub overran : one.main.counts.overran ≡ other.main.counts.overran
  pub least_used : one.main.counts.least_used ≡ other.main.counts.least_used
  pub most_used : one.main.counts.most_used ≡ other.main.counts.most_used
  pub budget : one.budget ≡ other.budget
  pub refused : one.refused ≡ other.refused

-- it is told of the process in its cycle after so many
abbrev pub IsUseAfter : Configuration → List (List ℕ) → ℕ → Cycle → ProcessUse → ℕ → Type 0
IsUseAfter c programs p y u cycles =
    IsSameOwn u (use_of (share_at c p) (entries_from c programs (y.start + cycles * y.length) y.length))

-- of one cycle
pub record UsesOne (c : Configuration) (programs : List (List ℕ)) (p : ℕ) (y : Cycle) (u : ProcessUse) : Type 0 where
  pub cycles : ℕ
  pub is : IsUseAfter c programs p y u cycles

-- of each, for ever, in every run in which the process has this program
abbrev pub UsesEach : Configuration → List (List ℕ) → ℕ → Cycle → ProcessUse → Type 0
UsesEach c programs p y u =
    (others : List (List ℕ)) (cycles : ℕ) → slice_index_or programs p [] ≡ slice_index_or others p [] → IsUseAfter c others p y u cycles

-- the cycle that was found of a process that keeps to itself
abbrev pub cycle_by : Keeping → Option Cycle → Option Cycle
cycle_by kind.Keeps cycle = cycle
cycle_by kind.ReadsTick cycle = None
cycle_by kind.HasThreads cycle = None
cycle_by kind.HasSlack cycle = None

abbrev pub own_cycle : OwnTold → Option Cycle
own_cycle told = cycle_by told.keeping told.cycle

-- one cycle of the process is counted, where it has cycles, and nothing else is
abbrev pub IsOneUse : Configuration → List (List ℕ) → ℕ → Option Cycle → Option ProcessUse → Type 0
IsOneUse c programs p None None = Unit {0}
IsOneUse c programs p (Some y) (Some u) = UsesOne c programs p y u
IsOneUse c programs p None (Some u) = ⊥
IsOneUse c programs p (Some y) None = ⊥

-- and so each of its cycles in every run is
abbrev pub IsEachUse : Configuration → List (List ℕ) → ℕ → Option Cycle → Option ProcessUse → Type 0
IsEachUse c programs p None None = Unit {0}
IsEachUse c programs p (Some y) (Some u) = UsesEach c programs p y u
IsEachUse c programs p None (Some u) = ⊥
IsEachUse c programs p (Some y) None = ⊥

-- what a search of the run found, and what is counted of one of the cycles of the process
pub record IsOneFound (c : Configuration) (programs : List (List ℕ)) (f : OwnFound) : Type 0 where
  pub tick : ℕ
  pub search : OwnSearch
  pub is : IsOwnSearch c programs tick search
  pub told : f.told ≡ own_told search
  pub done : IsOneUse c programs f.told.process (own_cycle f.told) f.done

-- what is told of the process, of each of its cycles in every run
pub record IsOwnFound (c : Configuration) (programs : List (List ℕ)) (f : OwnFound) : Type 0 where
  pub told : IsOwnTold c programs f.told
  pub done : IsEachUse c programs f.told.process (own_cycle f.told) f.done

-- what is told of one cycle of a process that repeats whatever the others do is told of each, in every run
abbrev pub OwnCyclesAreAlike : Type 0
OwnCyclesAreAlike =
    (c : Configuration) (programs : List (List ℕ)) (p : ℕ) (y : Cycle) (u : ProcessUse) → HasCycle c programs p y → UsesOne c programs p y u
    → UsesEach c programs p y u

-- The search for a cycle of one process by itself.
use Rattle.std.specs.Prelude.{ℕ, ◌≡◌, ◌+◌, ◌-◌, ◌<◌, ◌≤◌, ◌%◌, true, List, [], length, slice_index_or, Option, Some, IfSome, is_some}
use Rattle.dk_config.specs.Configuration.{Configuration}
use Rattle.dk_config.specs.Windows.{period, main_level}
use Rattle.dk_cpu.specs.declared.Context.{Context}
use Rattle.dk_world.specs.Run.{world, trace}
use Rattle.dk_alone.specs.Again.{WindowBegins, ProcessStandsAgain, main_is_stopped}
use Rattle.dk_cycle.specs.declared.Cycle.{Cycle}
use Rattle.dk_cycle.specs.declared.own.MainState.{MainState}
use Rattle.dk_cycle.specs.declared.own.OwnSearch.{OwnSearch}
use Rattle.dk_cycle.specs.Keeping.{IsKeeping}

-- what the process is at a tick of a run
pub record IsMainState (c : Configuration) (programs : List (List ℕ)) (p : ℕ) (s : MainState) : Type 0 where
  pub memory : s.words.items ≡ ((world c programs s.tick).images p).memory
  pub context : s.context ≡ ((world c programs s.tick).images p).contexts 0
  pub stopped : s.stopped ≡ main_is_stopped c p (trace c programs s.tick)

-- where a window of its main begins
pub record IsSavedMain (c : Configuration) (programs : List (List ℕ)) (p : ℕ) (s : MainState) : Type 0 where
  pub begins : WindowBegins c p s.tick
  pub is : IsMainState c programs p s

-- the same, but for the tick
pub record IsSameMain (one other : MainState) : Type 0 where
  pub memory : one.words.items ≡ other.words.items
  pub context : one.context ≡ other.context
  pub stopped : one.stopped ≡ other.stopped

-- it is what it was at the tick that is kept, an earlier one
pub record IsBack (saved : Option MainState) (now : MainState) : Type 0 where
  pub before : MainState
  pub is : saved ≡ Some before
  pub later : before.tick < now.tick
  pub same : IsSameMain before now

-- with this context and this memory it isn't
abbrev pub IsGone : Option MainState → Context → List ℕ → Type 0
IsGone saved context words = (now : MainState) → now.context ≡ context → now.words.items ≡ words → IsBack saved now → ⊥

-- the cycle from the tick that is kept to a later one at which the process is the same
pub record IsFound (saved : Option MainState) (now : MainState) (y : Cycle) : Type 0 where
  pub before : MainState
  pub is : saved ≡ Some before
  pub later : before.tick < now.tick
  pub start : y.start ≡ before.tick
  pub lasts : y.length ≡ now.tick - before.tick
  pub same : IsSameMain before now

-- what a search keeps is of this run, and at the two ticks that it found the process stands alike. The later one has come.
pub record IsOwnSearch (c : Configuration) (programs : List (List ℕ)) (tick : ℕ) (search : OwnSearch) : Type 0 where
  pub known : search.process < length c.processes
  pub period : search.period ≡ period c (main_level c search.process)
  pub some : 0 < search.period
  pub keeping : IsKeeping c search.process (slice_index_or programs search.process []) search.keeping
  pub saved : IfSome search.saved (IsSavedMain c programs search.process)
  pub cycle : IfSome search.cycle (λ y. ProcessStandsAgain c programs search.process y.start y.length)
  pub within : IfSome search.cycle (λ y. y.start + y.length ≤ tick)

-- a search of a run that looks at what the process is where a window of its main begins is still one of that run
abbrev pub Looks : OwnSearch → MainState → OwnSearch → Type 0
Looks before now after =
    (c : Configuration) (programs : List (List ℕ)) → IsOwnSearch c programs now.tick before → IsMainState c programs before.process now
    → now.tick % before.period ≡ 0 → IsOwnSearch c programs now.tick after

-- where the process is what it was at the tick that is kept, a cycle is found
abbrev pub Finds : OwnSearch → MainState → OwnSearch → Type 0
Finds before now after = IsBack before.saved now → is_some after.cycle ≡ true

-- The searches of a run and of each of its processes.
use Rattle.std.specs.Prelude.{ℕ, ◌≡◌, ◌⊎◌, ◌+◌, ◌<◌, ◌≤◌, false, List, Option, Some, None, length, map, slice_get, All, IfSome, IsSomeAnd}
use Rattle.std.specs.List.{range_with_len}
use Rattle.dk_config.specs.Configuration.{Configuration}
use Rattle.dk_loader.specs.Workload.{Workload}
use Rattle.dk_cpu.specs.declared.Context.{Context}
use Rattle.dk_kernel.specs.Running.{Running, world_of}
use Rattle.dk_cycle.specs.declared.own.OwnSearch.{OwnSearch}
use Rattle.dk_cycle.specs.declared.run.ProcessState.{ProcessState}
use Rattle.dk_cycle.specs.declared.run.RunSearch.{RunSearch}
use Rattle.dk_cycle.specs.declared.run.RunState.{RunState}
use Rattle.dk_cycle.specs.Own.{IsGone, IsOwnSearch}
use Rattle.dk_cycle.specs.Run.{IsOtherProcess, IsRunSearch}
use Rattle.dk_cycle.specs.Seeking.{HasLooked, HasLookedAtRun, IsDone, IsYoung, IsYoungRun}
use Rattle.dk_cycle.specs.Start.{StartsFirst}
use Rattle.dk_repeat_search.specs.declared.search.Searches.{Searches}

-- the run of a configuration with its programs, before its first tick
abbrev pub begun : Workload → Running
begun w = record { config = w.config; programs = w.programs; ticks = 0 }

abbrev pub process_of : OwnSearch → ℕ
process_of search = search.process

-- they are of this run up to the tick, one for each process, in the order of the rows
pub record AreOwn (c : Configuration) (programs : List (List ℕ)) (tick : ℕ) (own : List OwnSearch) : Type 0 where
  pub all : All (IsOwnSearch c programs tick) own
  pub processes : map process_of own ≡ range_with_len 0 (length c.processes)

pub record IsSearching (k : Running) (s : Searches) : Type 0 where
  pub run : IsRunSearch k.config k.programs k.ticks s.run
  pub own : AreOwn k.config k.programs k.ticks s.own.items
  pub programs : s.programs.items ≡ k.programs
  pub each : length k.programs ≡ length k.config.processes

-- the search needn't look now: what it keeps is young, and the process has another memory or another context of its main
pub record MayPass (k : Running) (search : OwnSearch) : Type 0 where
  pub young : IsYoung search.saved k.ticks
  pub context : Context
  pub words : List ℕ
  pub context_is : context ≡ ((world_of k).images search.process).contexts 0
  pub words_are : words ≡ ((world_of k).images search.process).memory
  pub gone : IsGone search.saved context words

-- it has looked at each tick before n at which a window of its main begins
abbrev pub HasLookedBefore : Running → ℕ → OwnSearch → Type 0
HasLookedBefore k n search = HasLooked k.config k.programs n search

-- and it needn't look in so many ticks from now on
abbrev pub LooksFor : Running → ℕ → OwnSearch → Type 0
LooksFor k wait search = (w : ℕ) → 1 ≤ w → w ≤ wait → HasLookedBefore k (k.ticks + w) search

-- the process has another memory than then, or another context of its main, where it ran on
pub record IsOtherNow (k : Running) (p : ℕ) (s : ProcessState) : Type 0 where
  pub context : Context
  pub words : List ℕ
  pub context_is : context ≡ ((world_of k).images p).contexts 0
  pub words_are : words ≡ ((world_of k).images p).memory
  pub other : IsOtherProcess s context words

-- one of the processes has
pub record HasOtherNow (k : Running) (states : List ProcessState) : Type 0 where
  pub process : ℕ
  pub state : ProcessState
  pub known : process < length k.config.processes
  pub there : slice_get states process ≡ Some state
  pub is : IsOtherNow k process state

abbrev pub IsOtherRun : Running → Option RunState → Type 0
IsOtherRun k saved = IsSomeAnd saved (λ s. HasOtherNow k s.processes.items)

-- The search of the run needn't look now: what it keeps is young, and a thread was made or stopped since, or the tick was read;
-- or a process is another than then.
pub record MayPassRun (k : Running) (search : RunSearch) : Type 0 where
  pub young : IsYoungRun search.saved k.ticks
  pub why : (search.kept ≡ false) ⊎ IsOtherRun k search.saved

-- it has looked at each tick before n at which the windows of all levels begin
abbrev pub HasLookedAtRunBefore : Running → ℕ → RunSearch → Type 0
HasLookedAtRunBefore k n search = HasLookedAtRun k.config k.programs k.ticks n search

-- and it needn't look in so many ticks from now on
abbrev pub LooksAtRunFor : Running → ℕ → RunSearch → Type 0
LooksAtRunFor k wait search = (w : ℕ) → 1 ≤ w → w ≤ wait → HasLookedAtRunBefore k (k.ticks + w) search

-- each search has looked at each tick before n at which a window begins in which it looks
pub record HaveLooked (k : Running) (n : ℕ) (s : Searches) : Type 0 where
  pub run : HasLookedAtRunBefore k n s.run
  pub own : All (HasLookedBefore k n) s.own.items

-- and none needs to in so many ticks from now on
abbrev pub AllLookFor : Running → ℕ → Searches → Type 0
AllLookFor k wait s = (w : ℕ) → 1 ≤ w → w ≤ wait → HaveLooked k (k.ticks + w) s

-- no search of a process looks for anything any more, or all of so many ticks have come
abbrev pub HaveEnded : Searches → ℕ → ℕ → Type 0
HaveEnded s ticks all = All IsDone s.own.items ⊎ (ticks ≡ all)

-- the configuration of a kernel with its programs
abbrev pub loaded_of : Running → Workload
loaded_of k = record { config = k.config; programs = k.programs }

-- the searches after a second pass: the cycle of the run starts where it first can, and there is one where there was one
pub record HasSettled (k : Running) (before after : Searches) : Type 0 where
  pub is : IsSearching k after
  pub first : IfSome after.run.cycle (StartsFirst k.config k.programs)
  pub had : after.run.cycle ≡ None → before.run.cycle ≡ None
  pub own : after.own.items ≡ before.own.items

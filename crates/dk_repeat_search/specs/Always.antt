-- What is so for ever in a run.
use Rattle.std.specs.Prelude.{ℕ, ◌≡◌, ◌<◌, List, Some, length, map, slice_get, slice_index_or, All}
use Rattle.std.specs.List.{range_with_len}
use Rattle.dk_config.specs.Configuration.{Configuration}
use Rattle.dk_loader.specs.Workload.{Workload}
use Rattle.dk_kernel.specs.Running.{Running}
use Rattle.dk_cycle.specs.declared.own.OwnSearch.{OwnSearch}
use Rattle.dk_cycle.specs.declared.waiting.Waits.{Waits}
use Rattle.dk_cycle.specs.declared.waiting.Waits.TheVariants as what
use Rattle.dk_cycle.specs.declared.waiting.WaitWatch.{WaitWatch}
use Rattle.dk_cycle.specs.Seeking.{HasNoOwnCycle}
use Rattle.dk_cycle.specs.Told.{IsRunTold}
use Rattle.dk_cycle.specs.Waiting.{IsWaitWatch, IsWaits, waits_told}
use Rattle.dk_repeat_search.specs.Repeats.{RunHasNoneToFind}
use Rattle.dk_repeat_search.specs.declared.always.Always.{Always}
use Rattle.dk_repeat_search.specs.declared.always.Watching.{Watching}
use Rattle.dk_repeat_search.specs.Searching.{IsSearching}

abbrev pub watched_process : WaitWatch → ℕ
watched_process watch = watch.process

-- they are of this run up to the tick, one for each process, in the order of the rows
pub record AreWatches (c : Configuration) (programs : List (List ℕ)) (tick : ℕ) (watches : List WaitWatch) : Type 0 where
  pub all : All (IsWaitWatch c programs tick) watches
  pub processes : map watched_process watches ≡ range_with_len 0 (length c.processes)

pub record IsWatching (k : Running) (w : Watching) : Type 0 where
  pub searches : IsSearching k w.searches
  pub watches : AreWatches k.config k.programs k.ticks w.watches.items

-- of the first so many processes what their searches and watches tell
pub record AreTold (own : List OwnSearch) (watches : List WaitWatch) (many : ℕ) (waits : List Waits) : Type 0 where
  pub all : length waits ≡ many
  pub each : (p : ℕ) (s : OwnSearch) (w : WaitWatch) (x : Waits) → p < many
      → slice_index_or waits p x ≡ waits_told (slice_index_or own p s) (slice_index_or watches p w)

-- of each process, in the order of the rows, what is told of its windows after so many ticks holds
pub record AreWaits (c : Configuration) (programs : List (List ℕ)) (ticks : ℕ) (waits : List Waits) : Type 0 where
  pub many : length waits ≡ length c.processes
  pub each : (p : ℕ) (x : Waits) → slice_get waits p ≡ Some x → IsWaits c programs p ticks x

-- what was found in so many ticks: the cycle of the run, and of each process, in the order of the rows, whether its main waits in
-- each of its windows
pub record IsAlways (w : Workload) (ticks : ℕ) (a : Always) : Type 0 where
  pub run : IsRunTold w.config w.programs ticks a.run
  pub waits : AreWaits w.config w.programs ticks a.waits.items
  -- where it isn't known of a process that keeps to itself, no cycle of it was to be found
  pub none : (p : ℕ) → slice_get a.waits.items p ≡ Some what.NotWithin → HasNoOwnCycle w.config w.programs p ticks
  -- where none is told of the run, none was to be found
  pub no_cycle : RunHasNoneToFind w ticks a.run.cycle

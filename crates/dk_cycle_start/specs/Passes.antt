-- The second pass over a run, with two kernels.
use Rattle.std.specs.Prelude.{ℕ, ◌≡◌, ◌+◌, ◌<◌, ◌≤◌, Bool, true, false, length, option_map, IfSome}
use Rattle.dk_loader.specs.Workload.{Workload}
use Rattle.dk_repeat.specs.Repeat.{RunStandsAgain}
use Rattle.dk_kernel.specs.Booting.{IsLoaded}
use Rattle.dk_kernel.specs.Running.{Running}
use Rattle.dk_cycle.specs.declared.Cycle.{Cycle}
use Rattle.dk_cycle.specs.declared.run.RunSearch.{RunSearch}
use Rattle.dk_cycle.specs.declared.start.StartSearch.{StartSearch}
use Rattle.dk_cycle.specs.Run.{IsRunSearch, KeepsThreadsFrom}
use Rattle.dk_cycle.specs.Start.{IsStartSearch, StartsFirst, with_start}
use Rattle.dk_cycle_start.specs.declared.pass.SecondPass.{SecondPass}

-- the second kernel is of the run of the first, so many ticks later
abbrev pub IsLater : Running → ℕ → Running → Type 0
IsLater early ticks late = late ≡ record early { ticks = early.ticks + ticks }

-- each process has a program
abbrev pub HasPrograms : Running → Type 0
HasPrograms k = length k.programs ≡ length k.config.processes

-- the run of a configuration with its programs, before its first tick
abbrev pub begun : Workload → Running
begun w = record { config = w.config; programs = w.programs; ticks = 0 }

abbrev pub IsSearch : Running → StartSearch → Type 0
IsSearch k s = IsStartSearch k.config k.programs k.ticks s

-- the run stands again, and makes and stops no thread between
pub record IsCycleOf (k : Running) (y : Cycle) : Type 0 where
  pub stands : RunStandsAgain k.config k.programs y.start y.length
  pub keeps : KeepsThreadsFrom k.config k.programs y.start y.length

-- where the answer is yes the run stands again so much later, and where it is no it doesn't
pub record Answers (k : Running) (y : Cycle) (start : ℕ) (b : Bool) : Type 0 where
  pub yes : b ≡ true → RunStandsAgain k.config k.programs start y.length
  pub no : b ≡ false → RunStandsAgain k.config k.programs start y.length → ⊥

-- at no tick before the start the run stands again so much later, but at the start it does
pub record IsFirst (k : Running) (y : Cycle) (start : ℕ) : Type 0 where
  pub early : start ≤ y.start
  pub stands : RunStandsAgain k.config k.programs start y.length
  pub first : (t : ℕ) → t < start → RunStandsAgain k.config k.programs t y.length → ⊥

-- copies of one configuration with its programs
pub record IsPass (s : SecondPass) : Type 0 where
  pub loaded : IsLoaded s.early
  pub late : s.late ≡ s.early
  pub programs : s.programs.items ≡ s.early.programs

-- the search after the pass is of the run, its cycle starts at its first tick, and is the one that it had but for the start
pub record IsSettled (w : Workload) (tick : ℕ) (before after : RunSearch) : Type 0 where
  pub is : IsRunSearch w.config w.programs tick after
  pub first : IfSome after.cycle (StartsFirst w.config w.programs)
  pub start : ℕ
  pub cycle : after.cycle ≡ option_map (with_start start) before.cycle

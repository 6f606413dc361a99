-- What is counted of a cycle.
use Rattle.std.specs.Prelude.{ℕ, ◌≡◌, ◌+◌, ◌*◌, List, length, map, All}
use Rattle.std.specs.List.{range_with_len}
use Rattle.dk_config.specs.Configuration.{Configuration}
use Rattle.dk_loader.specs.Workload.{Workload}
use Rattle.dk_cycle.specs.declared.Cycle.{Cycle}
use Rattle.dk_cycle.specs.declared.told.OwnTold.{OwnTold}
use Rattle.dk_cycle_counts.specs.declared.process.MainShare.{MainShare}
use Rattle.dk_cycle_counts.specs.declared.counts.CycleCounts.{CycleCounts}
use Rattle.dk_cycle_counts.specs.Counts.{AreCountsOf}
use Rattle.dk_repeat_report.specs.declared.own.OwnFound.{OwnFound}
use Rattle.dk_repeat_report.specs.Cycles.{entries_from}
use Rattle.dk_repeat_report.specs.Lines.{process_of}
use Rattle.dk_repeat_report.specs.OwnUses.{IsOneFound}
use Rattle.dk_repeat_report.specs.Found.{AreOf}
use Rattle.dk_repeat_search.specs.declared.count.Found.{Found}

-- a cycle starts at the tick
abbrev pub StartsCycle : Cycle → ℕ → Type 0
StartsCycle y tick = (cycles : ℕ) × (tick ≡ y.start + cycles * y.length)

-- this is counted of these processes in one cycle
pub record CountsSome (c : Configuration) (programs : List (List ℕ)) (shares : List MainShare) (y : Cycle) (k : CycleCounts) : Type 0 where
  pub cycles : ℕ
  pub are : AreCountsOf shares (entries_from c programs (y.start + cycles * y.length) y.length) k

-- what was found in the run of this configuration with these programs
abbrev pub IsFound : Workload → Found → Type 0
IsFound w f = AreOf w.config w.programs f.run f.counts f.own.items

abbrev pub told_of : OwnFound → OwnTold
told_of f = f.told

-- what was found of each process by itself, in the order of the rows
pub record AreOwnFound (c : Configuration) (programs : List (List ℕ)) (own : List OwnFound) : Type 0 where
  pub all : All (IsOneFound c programs) own
  pub processes : map process_of own ≡ range_with_len 0 (length c.processes)

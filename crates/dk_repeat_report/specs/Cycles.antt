-- What is counted of a cycle of a run, and so of each later one.
use Rattle.std.specs.Prelude.{ℕ, ◌≡◌, ◌+◌, ◌*◌, ◌/◌, ◌≤◌, List, length, map, take, Option, Some, None}
use Rattle.std.specs.List.{range_with_len}
use Rattle.dk_config.specs.Configuration.{Configuration}
use Rattle.dk_config.specs.Windows.{budget, main_level, period}
use Rattle.dk_config.specs.Sums.{below}
use Rattle.dk_trace.specs.declared.Entry.{Entry}
use Rattle.dk_world.specs.Run.{trace}
use Rattle.dk_alone.specs.Again.{window_from}
use Rattle.dk_window_report.specs.Windows.{ended_windows}
use Rattle.dk_cycle.specs.declared.Cycle.{Cycle}
use Rattle.dk_cycle.specs.Repeating.{RepeatsForEver}
use Rattle.dk_cycle_counts.specs.declared.process.MainShare.{MainShare}
use Rattle.dk_cycle_counts.specs.declared.counts.CycleCounts.{CycleCounts}
use Rattle.dk_cycle_counts.specs.Counts.{AreCountsOf}

abbrev pub share_at : Configuration → ℕ → MainShare
share_at c p = record { process = p; period = period c (main_level c p); budget = budget c p }

-- each process, with the period of its main's level and its budget
abbrev pub shares_of : Configuration → List MainShare
shares_of c = map (share_at c) (range_with_len 0 (length c.processes))

-- the entries of the k ticks from tick s on, the newest first
abbrev pub entries_from : Configuration → List (List ℕ) → ℕ → ℕ → List Entry
entries_from c programs s k = take k (trace c programs (s + k))

-- these are the counts of the cycle after so many
abbrev pub AreCountsAfter : Configuration → List (List ℕ) → Cycle → CycleCounts → ℕ → Type 0
AreCountsAfter c programs y k cycles =
    AreCountsOf (shares_of c) (entries_from c programs (y.start + cycles * y.length) y.length) k

-- of one cycle
pub record CountsOne (c : Configuration) (programs : List (List ℕ)) (y : Cycle) (k : CycleCounts) : Type 0 where
  pub cycles : ℕ
  pub are : AreCountsAfter c programs y k cycles

-- of each, for ever
abbrev pub CountsEach : Configuration → List (List ℕ) → Cycle → CycleCounts → Type 0
CountsEach c programs y k = (cycles : ℕ) → AreCountsAfter c programs y k cycles

-- one cycle is counted, where there are cycles, and nothing else is
abbrev pub IsOneCounted : Configuration → List (List ℕ) → Option Cycle → Option CycleCounts → Type 0
IsOneCounted c programs None None = Unit {0}
IsOneCounted c programs (Some y) (Some k) = CountsOne c programs y k
IsOneCounted c programs None (Some k) = ⊥
IsOneCounted c programs (Some y) None = ⊥

-- and so each cycle is
abbrev pub IsEachCounted : Configuration → List (List ℕ) → Option Cycle → Option CycleCounts → Type 0
IsEachCounted c programs None None = Unit {0}
IsEachCounted c programs (Some y) (Some k) = CountsEach c programs y k
IsEachCounted c programs None (Some k) = ⊥
IsEachCounted c programs (Some y) None = ⊥

-- what is counted of one cycle of a run that repeats for ever is what is counted of each
abbrev pub CyclesAreAlike : Type 0
CyclesAreAlike =
    (c : Configuration) (programs : List (List ℕ)) (y : Cycle) (k : CycleCounts) → RepeatsForEver c programs y.start y.length
    → CountsOne c programs y k → CountsEach c programs y k

-- a window of a process that begins in a cycle has the entries of the one that begins a cycle before, and so for ever: the
-- windows of one cycle tell of all windows
abbrev pub WindowsRepeat : Type 0
WindowsRepeat =
    (c : Configuration) (programs : List (List ℕ)) (s k p tick : ℕ) → RepeatsForEver c programs s k → s ≤ tick
    → window_from c programs p (tick + k) ≡ window_from c programs p tick

-- the windows of so many ticks that a cycle is, one after another, are the last entries before their ends
abbrev pub CyclesAreWindows : Type 0
CyclesAreWindows =
    (c : Configuration) (programs : List (List ℕ)) (s k period : ℕ)
    → ended_windows period (entries_from c programs s k)
    ≡ map (λ w. take period (trace c programs (s + w * period + period))) (below (k / period))

-- Whether the main of a process waits in each of its windows.
use Rattle.std.specs.Prelude.{ℕ, ◌≡◌, ◌+◌, ◌<◌, ◌≤◌, ◌∷◌, Bool, true, false, List, [], take, slice_index_or, Option, Some, None, IfSome}
use Rattle.std.specs.List.{list_any}
use Rattle.dk_config.specs.Configuration.{Configuration}
use Rattle.dk_config.specs.Checked.{IsChecked, IsAccepted}
use Rattle.dk_config.specs.Windows.{period, main_level}
use Rattle.dk_trace.specs.declared.ThreadId.{ThreadId}
use Rattle.dk_trace.specs.declared.Entry.{Entry}
use Rattle.dk_trace.specs.Entries.{does, is_wait}
use Rattle.dk_world.specs.Run.{trace}
use Rattle.dk_alone.specs.Alone.{KeepsToItself}
use Rattle.dk_alone.specs.Again.{WindowBegins, window_from}
use Rattle.dk_cycle.specs.declared.Cycle.{Cycle}
use Rattle.dk_cycle.specs.declared.keeping.Keeping.{Keeping}
use Rattle.dk_cycle.specs.declared.keeping.Keeping.TheVariants as kind
use Rattle.dk_cycle.specs.declared.own.OwnSearch.{OwnSearch}
use Rattle.dk_cycle.specs.declared.waiting.Waits.{Waits}
use Rattle.dk_cycle.specs.declared.waiting.Waits.TheVariants as waits
use Rattle.dk_cycle.specs.declared.waiting.WaitWatch.{WaitWatch}
use Rattle.dk_cycle.specs.Keeping.{IsKeeping}
use Rattle.dk_cycle.specs.Own.{IsOwnSearch}

-- an entry in which the main of the process waits
abbrev pub main_waits : ℕ → Entry → Bool
main_waits p e = let main : ThreadId = record { process = p; serial = 0 } in does is_wait main e

-- it waits in the window that starts at the tick
abbrev pub waits_in : Configuration → List (List ℕ) → ℕ → ℕ → Bool
waits_in c programs p tick = list_any (main_waits p) (window_from c programs p tick)

-- the process has the same program in both
abbrev pub HasProgram : List (List ℕ) → List (List ℕ) → ℕ → Type 0
HasProgram programs others p = slice_index_or programs p [] ≡ slice_index_or others p []

-- it waits in each of its windows that are over by the tick
abbrev pub WaitedBefore : Configuration → List (List ℕ) → ℕ → ℕ → Type 0
WaitedBefore c programs p tick =
    (t : ℕ) → WindowBegins c p t → t + period c (main_level c p) ≤ tick → waits_in c programs p t ≡ true

-- and so it does in every run in which it has this program, whatever programs the others have
abbrev pub WaitsBefore : Configuration → List (List ℕ) → ℕ → ℕ → Type 0
WaitsBefore c programs p tick = (others : List (List ℕ)) → HasProgram programs others p → WaitedBefore c others p tick

-- of a run: the window that begins at the tick is the first in which it doesn't wait
pub record IsFirstMissed (c : Configuration) (programs : List (List ℕ)) (p tick : ℕ) : Type 0 where
  pub begins : WindowBegins c p tick
  pub missed : waits_in c programs p tick ≡ false
  pub first : WaitedBefore c programs p tick

-- the same of every run in which it has this program
pub record WaitsFirstNot (c : Configuration) (programs : List (List ℕ)) (p tick : ℕ) : Type 0 where
  pub begins : WindowBegins c p tick
  pub missed : (others : List (List ℕ)) → HasProgram programs others p → waits_in c others p tick ≡ false
  pub first : WaitsBefore c programs p tick

-- it keeps to itself, and waited so far
pub record WaitsSoFar (c : Configuration) (programs : List (List ℕ)) (p ticks : ℕ) : Type 0 where
  pub keeps : KeepsToItself c p (slice_index_or programs p [])
  pub waits : WaitsBefore c programs p ticks

-- what is told of the process after so many ticks holds in every run in which it has this program, whatever programs the others
-- have
abbrev pub IsWaits : Configuration → List (List ℕ) → ℕ → ℕ → Waits → Type 0
IsWaits c programs p ticks waits.Always =
    (others : List (List ℕ)) (tick : ℕ) → HasProgram programs others p → WindowBegins c p tick → waits_in c others p tick ≡ true
IsWaits c programs p ticks (waits.NotFrom tick) = WaitsFirstNot c programs p tick
IsWaits c programs p ticks waits.NotWithin = WaitsSoFar c programs p ticks
IsWaits c programs p ticks (waits.Unknown keeping) =
    (keeping ≡ kind.Keeps → ⊥) × IsKeeping c p (slice_index_or programs p []) keeping

-- What a watch has seen of the run up to the tick: whether the main waited in the present window so far, and which of those
-- that are over is the first without a wait.
pub record IsWaitWatch (c : Configuration) (programs : List (List ℕ)) (tick : ℕ) (watch : WaitWatch) : Type 0 where
  pub period : watch.period ≡ period c (main_level c watch.process)
  pub begins : WindowBegins c watch.process watch.begins
  pub now : watch.begins + watch.passed ≡ tick
  pub within : watch.passed < watch.period
  pub waited : watch.waited ≡ list_any (main_waits watch.process) (take watch.passed (trace c programs tick))
  pub seen : watch.missed ≡ None → WaitedBefore c programs watch.process watch.begins
  pub missed : IfSome watch.missed (IsFirstMissed c programs watch.process)

-- the first window without a wait, with one more that is over
abbrev pub first_missed : Option ℕ → Bool → ℕ → Option ℕ
first_missed (Some t) waited tick = Some t
first_missed None true tick = None
first_missed None false tick = Some tick

-- a watch of a run that sees the entry of the next tick is one up to that tick
abbrev pub Watches : WaitWatch → Entry → WaitWatch → Type 0
Watches before entry after =
    (c : Configuration) (programs : List (List ℕ)) (tick : ℕ) → IsWaitWatch c programs tick before
    → trace c programs (tick + 1) ≡ entry ∷ trace c programs tick → IsWaitWatch c programs (tick + 1) after

-- of a process that keeps to itself, by the first window without a wait, else by its cycle
abbrev pub waits_of : Option ℕ → Option Cycle → Waits
waits_of (Some tick) cycle = waits.NotFrom tick
waits_of None (Some y) = waits.Always
waits_of None None = waits.NotWithin

abbrev pub waits_by : Keeping → Option ℕ → Option Cycle → Waits
waits_by kind.Keeps missed cycle = waits_of missed cycle
waits_by kind.ReadsTick missed cycle = waits.Unknown kind.ReadsTick
waits_by kind.HasThreads missed cycle = waits.Unknown kind.HasThreads
waits_by kind.HasSlack missed cycle = waits.Unknown kind.HasSlack

-- what a search and a watch tell together
abbrev pub waits_told : OwnSearch → WaitWatch → Waits
waits_told search watch = waits_by search.keeping watch.missed search.cycle

-- where a search and a watch of one process have seen the same ticks of a run, that holds of every run
abbrev pub WaitsAreTold : Type 0
WaitsAreTold =
    (c : Configuration) (programs : List (List ℕ)) (tick : ℕ) (search : OwnSearch) (watch : WaitWatch) → IsChecked c → IsAccepted c
    → IsOwnSearch c programs tick search → IsWaitWatch c programs tick watch → watch.process ≡ search.process
    → IsWaits c programs search.process tick (waits_told search watch)

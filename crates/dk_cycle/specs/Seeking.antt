-- How soon what repeats is found.
use Rattle.std.specs.Prelude.{ℕ, ◌≡◌, ◌+◌, ◌*◌, ◌<◌, ◌≤◌, ◌%◌, Bool, false, List, ◌∷◌, length, map, filter, Option, Some, None, is_none, slice_get, IfSome, IsSomeAnd}
use Rattle.dk_config.specs.Configuration.{Configuration}
use Rattle.dk_config.specs.Checked.{IsChecked, IsAccepted}
use Rattle.dk_cpu.specs.declared.Context.{Context}
use Rattle.dk_trace.specs.declared.Entry.{Entry}
use Rattle.dk_trace.specs.Threads.{Thread, family}
use Rattle.dk_world.specs.Run.{World, trace, world}
use Rattle.dk_repeat.specs.Repeat.{RunStandsAgain, WindowsBegin}
use Rattle.dk_alone.specs.Again.{WindowBegins, ProcessStandsAgain}
use Rattle.dk_cycle.specs.declared.keeping.Keeping.TheVariants as kind
use Rattle.dk_cycle.specs.declared.own.MainState.{MainState}
use Rattle.dk_cycle.specs.declared.own.OwnSearch.{OwnSearch}
use Rattle.dk_cycle.specs.declared.run.ThreadState.{ThreadState}
use Rattle.dk_cycle.specs.declared.run.ProcessState.{ProcessState}
use Rattle.dk_cycle.specs.declared.run.RunState.{RunState}
use Rattle.dk_cycle.specs.declared.run.RunSearch.{RunSearch}
use Rattle.dk_cycle.specs.Own.{IsGone, IsMainState, IsOwnSearch}
use Rattle.dk_cycle.specs.Run.{IsOtherProcess, IsReader, IsRunSearch, IsRunState, KeepsThreadsFrom}
use Rattle.dk_cycle.specs.Start.{IsLoud}

-- what stands at tick s + k as at tick s is found by both these ticks
pub record IsFoundBy (s k tick : ℕ) : Type 0 where
  pub start : 2 * s + k ≤ tick
  pub long : 3 * k ≤ tick

-- Of a search that keeps what was at tick q, and has looked at each tick before n at which windows begin.
pub record Seeks (Begins : ℕ → Type 0) (Again : ℕ → ℕ → Type 0) (n q : ℕ) : Type 0 where
  pub before : q < n
  -- what is kept is replaced once it is as old as the run was then
  pub young : (t : ℕ) → Begins t → q < t → t < n → t < 2 * q
  -- it doesn't stand again so far as at tick q
  pub since : (k : ℕ) → Again q k → q + k < n → ⊥
  -- nor ever as at a tick s, and k ticks later, where both are at most half of q
  pub early : (s k : ℕ) → Again s k → 2 * s ≤ q → 2 * k ≤ q → ⊥

-- ---- a process by itself

abbrev pub OwnSeeks : Configuration → List (List ℕ) → ℕ → ℕ → Option MainState → Type 0
OwnSeeks c programs p n None = n ≡ 0
OwnSeeks c programs p n (Some m) = Seeks (WindowBegins c p) (ProcessStandsAgain c programs p) n m.tick

-- a search that isn't done has looked at each tick before n at which a window of its main begins
abbrev pub HasLooked : Configuration → List (List ℕ) → ℕ → OwnSearch → Type 0
HasLooked c programs n search = search.keeping ≡ kind.Keeps → search.cycle ≡ None → OwnSeeks c programs search.process n search.saved

-- it found a cycle, or none would tell of other runs
abbrev pub IsDone : OwnSearch → Type 0
IsDone search = search.keeping ≡ kind.Keeps → search.cycle ≡ None → ⊥

-- what is kept is as old as the run was then, or nothing is
abbrev pub IsOld : Option MainState → ℕ → Type 0
IsOld saved tick = IfSome saved (λ m. 2 * m.tick ≤ tick)

-- something is kept, which is younger
abbrev pub IsYoung : Option MainState → ℕ → Type 0
IsYoung saved tick = IsSomeAnd saved (λ m. tick < 2 * m.tick)

-- a search that has looked before, and looks now, has looked up to the present tick
abbrev pub LooksOn : OwnSearch → MainState → OwnSearch → Type 0
LooksOn before now after =
    (c : Configuration) (programs : List (List ℕ)) → IsChecked c → IsAccepted c → IsOwnSearch c programs now.tick before
    → IsMainState c programs before.process now → now.tick % before.period ≡ 0 → HasLooked c programs now.tick before
    → HasLooked c programs (now.tick + 1) after

-- it needn't look where what it keeps is young and the process has another memory or another context of its main
abbrev pub LooksPast : Type 0
LooksPast =
    (c : Configuration) (programs : List (List ℕ)) (tick : ℕ) (search : OwnSearch) (context : Context) (words : List ℕ)
    → IsOwnSearch c programs tick search → IsYoung search.saved tick → IsGone search.saved context words
    → context ≡ ((world c programs tick).images search.process).contexts 0 → words ≡ ((world c programs tick).images search.process).memory
    → HasLooked c programs tick search → HasLooked c programs (tick + 1) search

-- nor where no window of its main begins
abbrev pub LooksLater : Type 0
LooksLater =
    (c : Configuration) (programs : List (List ℕ)) (m n : ℕ) (search : OwnSearch) → m ≤ n
    → ((t : ℕ) → WindowBegins c search.process t → m ≤ t → t < n → ⊥)
    → HasLooked c programs m search → HasLooked c programs n search

-- no cycle of the process was to be found by the tick
abbrev pub HasNoOwnCycle : Configuration → List (List ℕ) → ℕ → ℕ → Type 0
HasNoOwnCycle c programs p tick = (s k : ℕ) → ProcessStandsAgain c programs p s k → IsFoundBy s k tick → ⊥

-- a search that found none has none to find
abbrev pub OwnIsFound : Type 0
OwnIsFound =
    (c : Configuration) (programs : List (List ℕ)) (tick : ℕ) (search : OwnSearch) → IsChecked c → IsAccepted c
    → IsOwnSearch c programs tick search → HasLooked c programs (tick + 1) search → search.keeping ≡ kind.Keeps → search.cycle ≡ None
    → HasNoOwnCycle c programs search.process tick

-- ---- a whole run

-- it stands at tick s + k as at tick s, and makes and stops no thread between
pub record RunKeepsAgain (c : Configuration) (programs : List (List ℕ)) (s k : ℕ) : Type 0 where
  pub stands : RunStandsAgain c programs s k
  pub keeps : KeepsThreadsFrom c programs s k

abbrev pub runs_on : Thread → Bool
runs_on x = is_none x.stop

abbrev pub state_of : World → ℕ → Thread → ThreadState
state_of w p x = record { serial = x.id.serial; context = (w.images p).contexts x.id.serial }

-- of each process the threads that run on, and no more
abbrev pub HoldsAll : Configuration → World → ProcessState → ℕ → Type 0
HoldsAll c w s p = s.threads.items ≡ map (state_of w p) (filter runs_on (family c p w.past))

-- what a run is at a tick, of each process, and no more
pub record IsWholeState (c : Configuration) (programs : List (List ℕ)) (s : RunState) : Type 0 where
  pub many : length s.processes.items ≡ length c.processes
  pub is : IsRunState c programs s
  pub each : (p : ℕ) (one : ProcessState) → slice_get s.processes.items p ≡ Some one → HoldsAll c (world c programs s.tick) one p

-- of what is kept, up to the tick, by a search that has looked at each tick before n at which all windows begin
pub record RunSeeks (c : Configuration) (programs : List (List ℕ)) (tick n : ℕ) (kept : Bool) (s : RunState) : Type 0 where
  pub whole : IsWholeState c programs s
  pub seeks : Seeks (WindowsBegin c) (RunKeepsAgain c programs) n s.tick
  -- where it isn't kept, a thread was made or stopped since, or the tick was read
  pub loud : kept ≡ false → (t : ℕ) × (s.tick ≤ t) × (t < tick) × IsLoud c programs t

abbrev pub RunSeeksFrom : Configuration → List (List ℕ) → ℕ → ℕ → Bool → Option RunState → Type 0
RunSeeksFrom c programs tick n kept None = n ≡ 0
RunSeeksFrom c programs tick n kept (Some s) = RunSeeks c programs tick n kept s

-- a search that isn't done has looked at each tick before n at which all windows begin
abbrev pub HasLookedAtRun : Configuration → List (List ℕ) → ℕ → ℕ → RunSearch → Type 0
HasLookedAtRun c programs tick n search = search.cycle ≡ None → RunSeeksFrom c programs tick n search.kept search.saved

abbrev pub IsOldRun : Option RunState → ℕ → Type 0
IsOldRun saved tick = IfSome saved (λ s. 2 * s.tick ≤ tick)

abbrev pub IsYoungRun : Option RunState → ℕ → Type 0
IsYoungRun saved tick = IsSomeAnd saved (λ s. tick < 2 * s.tick)

-- the entry of one more tick changes nothing of that
abbrev pub FollowsOn : RunSearch → ℕ → Entry → Option ℕ → RunSearch → Type 0
FollowsOn before tick entry reader after =
    (c : Configuration) (programs : List (List ℕ)) (n : ℕ) → IsRunSearch c programs tick before
    → trace c programs (tick + 1) ≡ entry ∷ trace c programs tick → IsReader c programs tick entry reader
    → HasLookedAtRun c programs tick n before → HasLookedAtRun c programs (tick + 1) n after

-- a search that has looked before, and looks now, has looked up to the present tick
abbrev pub LooksOnRun : RunSearch → RunState → RunSearch → Type 0
LooksOnRun before now after =
    (c : Configuration) (programs : List (List ℕ)) → IsChecked c → IsAccepted c → IsRunSearch c programs now.tick before
    → IsWholeState c programs now → now.tick % before.longest ≡ 0 → HasLookedAtRun c programs now.tick now.tick before
    → HasLookedAtRun c programs now.tick (now.tick + 1) after

-- it needn't look where what it keeps is young and a thread was made or stopped since, or the tick was read
abbrev pub LooksPastRun : Type 0
LooksPastRun =
    (c : Configuration) (programs : List (List ℕ)) (tick : ℕ) (search : RunSearch) → IsChecked c → IsAccepted c
    → IsYoungRun search.saved tick → search.kept ≡ false → HasLookedAtRun c programs tick tick search
    → HasLookedAtRun c programs tick (tick + 1) search

-- nor where it is young and a process has another memory or another context of its main
abbrev pub LooksPastProcess : Type 0
LooksPastProcess =
    (c : Configuration) (programs : List (List ℕ)) (tick : ℕ) (search : RunSearch) (s : RunState) (p : ℕ) (one : ProcessState) (context : Context) (words : List ℕ)
    → IsYoungRun search.saved tick → search.saved ≡ Some s → p < length c.processes → slice_get s.processes.items p ≡ Some one
    → IsOtherProcess one context words → context ≡ ((world c programs tick).images p).contexts 0 → words ≡ ((world c programs tick).images p).memory
    → HasLookedAtRun c programs tick tick search → HasLookedAtRun c programs tick (tick + 1) search

-- nor where no windows of all levels begin
abbrev pub LooksLaterAtRun : Type 0
LooksLaterAtRun =
    (c : Configuration) (programs : List (List ℕ)) (tick tick' m n : ℕ) (search : RunSearch) → tick ≤ tick' → m ≤ n
    → ((t : ℕ) → WindowsBegin c t → m ≤ t → t < n → ⊥)
    → HasLookedAtRun c programs tick m search → HasLookedAtRun c programs tick' n search

-- no cycle of the run was to be found by the tick
abbrev pub HasNoCycle : Configuration → List (List ℕ) → ℕ → Type 0
HasNoCycle c programs tick = (s k : ℕ) → RunKeepsAgain c programs s k → IsFoundBy s k tick → ⊥

-- a search that found none has none to find
abbrev pub RunIsFound : Type 0
RunIsFound =
    (c : Configuration) (programs : List (List ℕ)) (tick : ℕ) (search : RunSearch) → IsChecked c → IsAccepted c
    → IsRunSearch c programs tick search → HasLookedAtRun c programs tick (tick + 1) search → search.cycle ≡ None
    → HasNoCycle c programs tick

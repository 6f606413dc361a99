-- The search for a cycle of a whole run.
use Rattle.std.specs.Prelude.{ℕ, ◌≡◌, ◌+◌, ◌-◌, ◌<◌, ◌≤◌, ◌%◌, Bool, true, List, ◌∷◌, length, Option, Some, None, slice_get, IfSome, is_some}
use Rattle.std.specs.Int.{◌∣◌}
use Rattle.std.specs.Option.{option_map_or}
use Rattle.dk_config.specs.Configuration.{Configuration}
use Rattle.dk_config.specs.Checked.{IsChecked, IsAccepted}
use Rattle.dk_config.specs.Windows.{period}
use Rattle.dk_trace.specs.declared.Entry.{Entry}
use Rattle.dk_cpu.specs.declared.Context.{Context}
use Rattle.dk_trace.specs.Members.{Has}
use Rattle.dk_trace.specs.Threads.{Thread, family}
use Rattle.dk_world.specs.Run.{World, world, trace}
use Rattle.dk_repeat.specs.Repeat.{ReadsNoTickNext, WindowsBegin, ThreadsStandAlike, RunStandsAgain, entry_at, keeps_threads}
use Rattle.dk_repeat.specs.Reading.{NobodyReads, ReadLast, ReadsTickAt}
use Rattle.dk_cycle.specs.declared.Cycle.{Cycle}
use Rattle.dk_cycle.specs.declared.run.ThreadState.{ThreadState}
use Rattle.dk_cycle.specs.declared.run.ProcessState.{ProcessState}
use Rattle.dk_cycle.specs.declared.run.RunState.{RunState}
use Rattle.dk_cycle.specs.declared.run.RunSearch.{RunSearch}
use Rattle.dk_cycle.specs.Made.{IsLastMade}

-- the thread with its context is among these
abbrev pub IsAmong : World → ℕ → List ThreadState → Thread → Type 0
IsAmong w p threads x =
    (place : ℕ) × (slice_get threads place ≡ Some (record { serial = x.id.serial; context = (w.images p).contexts x.id.serial }))

-- the memory of the process, the threads that run on, and no context that isn't one's
pub record IsProcessState (c : Configuration) (w : World) (p : ℕ) (s : ProcessState) : Type 0 where
  pub memory : s.words.items ≡ (w.images p).memory
  pub threads : (x : Thread) → Has (family c p w.past) x → x.stop ≡ None → IsAmong w p s.threads.items x
  pub contexts : (place : ℕ) (t : ThreadState) → slice_get s.threads.items place ≡ Some t → t.context ≡ (w.images p).contexts t.serial

-- one of each process
abbrev pub AreProcessStates : Configuration → World → ℕ → List ProcessState → Type 0
AreProcessStates c w many states =
    (p : ℕ) → p < many → (s : ProcessState) × (slice_get states p ≡ Some s) × IsProcessState c w p s

-- what the run is at a tick
abbrev pub IsRunState : Configuration → List (List ℕ) → RunState → Type 0
IsRunState c programs s = AreProcessStates c (world c programs s.tick) (length c.processes) s.processes.items

-- where the windows of all levels begin
pub record IsSavedRun (c : Configuration) (programs : List (List ℕ)) (s : RunState) : Type 0 where
  pub begins : WindowsBegin c s.tick
  pub is : IsRunState c programs s

-- the threads at the places below so many are the same
abbrev pub AreSameThreads : List ThreadState → List ThreadState → ℕ → Type 0
AreSameThreads one other many = (place : ℕ) → place < many → slice_get one place ≡ slice_get other place

-- as many, and all of them are
pub record AreAllThreads (one other : List ThreadState) : Type 0 where
  pub many : length one ≡ length other
  pub each : AreSameThreads one other (length one)

pub record IsSameProcess (one other : ProcessState) : Type 0 where
  pub memory : one.words.items ≡ other.words.items
  pub threads : AreAllThreads one.threads.items other.threads.items

-- it had another memory, or its main, which ran on, another context
abbrev pub IsOtherProcess : ProcessState → Context → List ℕ → Type 0
IsOtherProcess s context words =
    s.words.items ≡ words → ((main : ThreadState) → slice_get s.threads.items 0 ≡ Some main → main.serial ≡ 0 → main.context ≡ context) → ⊥

abbrev pub AreSame : List ProcessState → List ProcessState → ℕ → Type 0
AreSame one other many =
    (p : ℕ) (s t : ProcessState) → p < many → slice_get one p ≡ Some s → slice_get other p ≡ Some t → IsSameProcess s t

-- as many, and all of them are the same
pub record AreAllProcesses (one other : List ProcessState) : Type 0 where
  pub many : length one ≡ length other
  pub each : AreSame one other (length one)

-- the run is what it was at the tick that is kept, an earlier one, and what is kept goes on
pub record IsBackRun (saved : Option RunState) (kept : Bool) (now : RunState) : Type 0 where
  pub before : RunState
  pub is : saved ≡ Some before
  pub still : kept ≡ true
  pub later : before.tick < now.tick
  pub same : AreAllProcesses before.processes.items now.processes.items

-- the cycle from the tick that is kept to a later one at which the run is the same
pub record IsFoundRun (saved : Option RunState) (kept : Bool) (now : RunState) (y : Cycle) : Type 0 where
  pub before : RunState
  pub is : saved ≡ Some before
  pub still : kept ≡ true
  pub later : before.tick < now.tick
  pub start : y.start ≡ before.tick
  pub lasts : y.length ≡ now.tick - before.tick
  pub same : AreAllProcesses before.processes.items now.processes.items

-- the entry of the tick neither makes nor stops a thread
abbrev pub KeepsThreadsIn : Configuration → List (List ℕ) → ℕ → Type 0
KeepsThreadsIn c programs n =
    (e : Entry) → entry_at c programs n ≡ Some e → option_map_or keeps_threads e.event true ≡ true

-- so many ticks from tick s on
abbrev pub KeepsThreadsFrom : Configuration → List (List ℕ) → ℕ → ℕ → Type 0
KeepsThreadsFrom c programs s k = (n : ℕ) → s ≤ n → n < s + k → KeepsThreadsIn c programs n

-- it is of this run, and where no thread was made or stopped since and the tick wasn't read, its threads stand alike then and at
-- the tick, and no call ended that reads the tick
pub record IsKept (c : Configuration) (programs : List (List ℕ)) (tick : ℕ) (kept : Bool) (s : RunState) : Type 0 where
  pub is : IsSavedRun c programs s
  pub come : s.tick ≤ tick
  pub threads : kept ≡ true → ThreadsStandAlike c (trace c programs s.tick) (trace c programs tick)
  pub clock : kept ≡ true → (n : ℕ) → s.tick ≤ n → n < tick → ReadsNoTickNext c (world c programs n)
  pub keeps : kept ≡ true → (n : ℕ) → s.tick ≤ n → n < tick → KeepsThreadsIn c programs n

-- a thread of this process read the tick in the tick with this entry, or nobody did
abbrev pub IsReader : Configuration → List (List ℕ) → ℕ → Entry → Option ℕ → Type 0
IsReader c programs tick e (Some p) = (p < length c.processes) × ReadsTickAt c programs tick e p
IsReader c programs tick e None = (p : ℕ) → ReadsTickAt c programs tick e p → ⊥

-- a thread of this process read the tick last before the tick, or nobody did
abbrev pub IsLastReader : Configuration → List (List ℕ) → ℕ → Option ℕ → Type 0
IsLastReader c programs tick (Some p) = ReadLast c programs tick p
IsLastReader c programs tick None = NobodyReads c programs 0 tick

-- no thread was made or stopped so far, nor is one in the entry e, and nobody read the tick in it
pub record GoesOn (kept : Bool) (e : Entry) (reader : Option ℕ) : Type 0 where
  pub still : kept ≡ true
  pub keeps : option_map_or keeps_threads e.event true ≡ true
  pub none : reader ≡ None

-- who read the tick last, where one did before, and then maybe another
abbrev pub last_reader : Option ℕ → Option ℕ → Option ℕ
last_reader before (Some p) = Some p
last_reader before None = before

-- it is the longest period, a multiple of all
pub record IsLongest (c : Configuration) (n : ℕ) : Type 0 where
  pub some : 0 < n
  pub level : ℕ
  pub known : level < length c.levels
  pub is : n ≡ period c level
  pub divides : (i : ℕ) → i < length c.levels → period c i ∣ n

-- What a search keeps is of this run, and at the two ticks that it found the run stands alike, reads no tick between, and makes
-- and stops no thread. The later one has come.
pub record IsRunSearch (c : Configuration) (programs : List (List ℕ)) (tick : ℕ) (search : RunSearch) : Type 0 where
  pub longest : IsLongest c search.longest
  pub reader : IsLastReader c programs tick search.reader
  pub made : IsLastMade c programs tick search.made
  pub saved : IfSome search.saved (IsKept c programs tick search.kept)
  pub cycle : IfSome search.cycle (λ y. RunStandsAgain c programs y.start y.length)
  pub keeps : IfSome search.cycle (λ y. KeepsThreadsFrom c programs y.start y.length)
  pub within : IfSome search.cycle (λ y. y.start + y.length ≤ tick)

-- a search of a run that looks at the entry of the tick, and at who read the tick in it, is one up to the next tick
abbrev pub Follows : RunSearch → ℕ → Entry → Option ℕ → RunSearch → Type 0
Follows before tick entry reader after =
    (c : Configuration) (programs : List (List ℕ)) → IsChecked c → IsAccepted c → IsRunSearch c programs tick before
    → trace c programs (tick + 1) ≡ entry ∷ trace c programs tick → IsReader c programs tick entry reader
    → IsRunSearch c programs (tick + 1) after

-- and one that looks at what the run is where the windows of all levels begin is still one
abbrev pub LooksAtRun : RunSearch → RunState → RunSearch → Type 0
LooksAtRun before now after =
    (c : Configuration) (programs : List (List ℕ)) → IsRunSearch c programs now.tick before → IsRunState c programs now
    → now.tick % before.longest ≡ 0 → IsRunSearch c programs now.tick after

-- where no thread was made or stopped, the tick wasn't read, and the run is what it was at the tick that is kept, a cycle is found
abbrev pub FindsRun : RunSearch → RunState → RunSearch → Type 0
FindsRun before now after = IsBackRun before.saved before.kept now → is_some after.cycle ≡ true

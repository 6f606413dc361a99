-- The search for the least start of a cycle of a run.
use Rattle.std.specs.Prelude.{ℕ, ◌≡◌, ◌+◌, ◌<◌, ◌≤◌, List, ◌∷◌, length, Option, Some, None}
use Rattle.dk_config.specs.Configuration.{Configuration}
use Rattle.dk_config.specs.Checked.{IsChecked, IsAccepted}
use Rattle.dk_trace.specs.declared.Entry.{Entry}
use Rattle.dk_trace.specs.Members.{Has}
use Rattle.dk_trace.specs.Threads.{Thread, family}
use Rattle.dk_world.specs.Run.{World, world, trace}
use Rattle.dk_repeat.specs.Repeat.{ReadsNoTickNext, RunStandsAgain, ThreadsStandAlike, WindowsBegin}
use Rattle.dk_cycle.specs.declared.Cycle.{Cycle}
use Rattle.dk_cycle.specs.declared.run.RunSearch.{RunSearch}
use Rattle.dk_cycle.specs.declared.start.StartSearch.{StartSearch}
use Rattle.dk_cycle.specs.Run.{IsLongest, IsReader, IsRunSearch, KeepsThreadsFrom, KeepsThreadsIn}

-- at no tick before its start the run stands again so many ticks later
abbrev pub StartsFirst : Configuration → List (List ℕ) → Cycle → Type 0
StartsFirst c programs y = (t : ℕ) → t < y.start → RunStandsAgain c programs t y.length → ⊥

-- the memories, and the contexts of the threads that run on, are equal
pub record AreImagesAlike (c : Configuration) (one other : World) : Type 0 where
  pub memory : (p : ℕ) → p < length c.processes → (one.images p).memory ≡ (other.images p).memory
  pub contexts : (p : ℕ) (x : Thread) → p < length c.processes → Has (family c p one.past) x → x.stop ≡ None
      → (one.images p).contexts x.id.serial ≡ (other.images p).contexts x.id.serial

-- where these are, the run stands at tick s + k as it stood at tick s
pub record IsOpen (c : Configuration) (programs : List (List ℕ)) (s k : ℕ) : Type 0 where
  pub begins : WindowsBegin c s
  pub begins_later : WindowsBegin c (s + k)
  pub threads : ThreadsStandAlike c (trace c programs s) (trace c programs (s + k))
  pub clock : (n : ℕ) → n < k → ReadsNoTickNext c (world c programs (s + n))

-- a thread is made or stopped in the tick, or the tick is read in it
abbrev pub IsLoud : Configuration → List (List ℕ) → ℕ → Type 0
IsLoud c programs n = KeepsThreadsIn c programs n → ReadsNoTickNext c (world c programs n) → ⊥

-- From a tick on no thread was made or stopped up to the present one, and the tick wasn't read; from each earlier one on
-- something of this was.
pub record IsStartSearch (c : Configuration) (programs : List (List ℕ)) (tick : ℕ) (s : StartSearch) : Type 0 where
  pub longest : IsLongest c s.longest
  pub threads : (t : ℕ) → s.quiet ≤ t → t ≤ tick → ThreadsStandAlike c (trace c programs t) (trace c programs tick)
  pub clock : (n : ℕ) → s.quiet ≤ n → n < tick → ReadsNoTickNext c (world c programs n)
  pub loud : (t : ℕ) → t < s.quiet → (n : ℕ) × (t ≤ n) × (n < tick) × IsLoud c programs n

-- a search that looks at the entry of a tick, and at who read the tick in it, is one up to the next tick
abbrev pub FollowsStart : StartSearch → ℕ → Entry → Option ℕ → StartSearch → Type 0
FollowsStart before tick entry reader after =
    (c : Configuration) (programs : List (List ℕ)) → IsChecked c → IsAccepted c → IsStartSearch c programs tick before
    → trace c programs (tick + 1) ≡ entry ∷ trace c programs tick → IsReader c programs tick entry reader
    → IsStartSearch c programs (tick + 1) after

-- between these ticks nothing hinders that the run stands again
abbrev pub Opens : StartSearch → ℕ → ℕ → Type 0
Opens s early late =
    (c : Configuration) (programs : List (List ℕ)) (k : ℕ) → IsStartSearch c programs late s → late ≡ early + k → IsOpen c programs early k

-- where it stands again somewhere as many ticks later, and makes and stops no thread between, something between these hinders it
abbrev pub Shuts : StartSearch → ℕ → ℕ → Type 0
Shuts s early late =
    (c : Configuration) (programs : List (List ℕ)) (y : Cycle) → IsChecked c → IsAccepted c → IsStartSearch c programs late s
    → RunStandsAgain c programs y.start y.length → KeepsThreadsFrom c programs y.start y.length → late ≡ early + y.length
    → RunStandsAgain c programs early y.length → ⊥

abbrev pub with_start : ℕ → Cycle → Cycle
with_start start y = record { start = start; length = y.length }

-- a search of a run, with the same cycle from an earlier start on
abbrev pub StartsAt : RunSearch → ℕ → RunSearch → Type 0
StartsAt before start after =
    (c : Configuration) (programs : List (List ℕ)) (tick : ℕ) (y : Cycle) → IsChecked c → IsAccepted c → IsRunSearch c programs tick before
    → before.cycle ≡ Some y → start ≤ y.start → RunStandsAgain c programs start y.length → IsRunSearch c programs tick after

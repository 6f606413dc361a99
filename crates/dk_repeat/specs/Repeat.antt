-- Where a run stands as it stood before.
use Rattle.std.specs.Prelude.{ℕ, suc, ◌≡◌, ◌+◌, ◌%◌, ◌<◌, Bool, true, false, List, [], ◌∷◌, length, map, Option, Some, None, is_some}
use Rattle.dk_config.specs.Configuration.{Configuration}
use Rattle.dk_config.specs.Windows.{period}
use Rattle.dk_trace.specs.declared.ThreadId.{ThreadId}
use Rattle.dk_trace.specs.declared.Event.{Event}
use Rattle.dk_trace.specs.declared.Entry.{Entry}
use Rattle.dk_trace.specs.Members.{Has}
use Rattle.dk_trace.specs.Threads.{Thread, family}
use Rattle.dk_trace.specs.Choices.{chosen}
use Rattle.dk_cpu.specs.declared.Outcome.{Outcome}
use Rattle.dk_cpu.specs.declared.kernel_call.KernelCall.{KernelCall}
use Rattle.dk_world.specs.Run.{World, executes, tick_in, world, trace}

-- the windows of all levels begin at the tick
abbrev pub WindowsBegin : Configuration → ℕ → Type 0
WindowsBegin c tick = (i : ℕ) → i < length c.levels → tick % period c i ≡ 0

-- what matters of a thread where all windows begin: its name, its level, its quota, and whether it was stopped
pub record Standing : Type 0 where
  pub id : ThreadId
  pub level : ℕ
  pub quota : ℕ
  pub stopped : Bool

abbrev pub standing : Thread → Standing
standing x = record { id = x.id; level = x.level; quota = x.quota; stopped = is_some x.stop }

-- the threads stand alike
abbrev pub ThreadsStandAlike : Configuration → List Entry → List Entry → Type 0
ThreadsStandAlike c one other =
    (p : ℕ) → p < length c.processes → map standing (family c p one) ≡ map standing (family c p other)

-- two worlds stand alike: their threads do, and the memories and the contexts of the threads that run on are equal
pub record RunStandsAlike (c : Configuration) (one other : World) : Type 0 where
  pub threads : ThreadsStandAlike c one.past other.past
  pub memory : (p : ℕ) → p < length c.processes → (one.images p).memory ≡ (other.images p).memory
  pub contexts : (p : ℕ) (x : Thread) → p < length c.processes → Has (family c p one.past) x → x.stop ≡ None
      → (one.images p).contexts x.id.serial ≡ (other.images p).contexts x.id.serial

-- the next tick doesn't end a call that reads the tick
abbrev pub ReadsNoTickNext : Configuration → World → Type 0
ReadsNoTickNext c w =
    (x : ThreadId) → executes (chosen c w.past) ≡ Some x
    → (tick_in c (w.images x.process) x.serial).outcome ≡ Outcome.CallDone KernelCall.Time → ⊥

-- all windows begin at tick s and k ticks later, the run stands alike there, and reads no tick between
pub record RunStandsAgain (c : Configuration) (programs : List (List ℕ)) (s k : ℕ) : Type 0 where
  pub later : 0 < k
  pub begins : WindowsBegin c s
  pub begins_later : WindowsBegin c (s + k)
  pub alike : RunStandsAlike c (world c programs s) (world c programs (s + k))
  pub clock : (n : ℕ) → n < k → ReadsNoTickNext c (world c programs (s + n))

-- the event neither makes a thread nor stops one
abbrev pub keeps_threads : Event → Bool
keeps_threads (Event.Create serial level quota) = false
keeps_threads (Event.Delete serial) = false
keeps_threads Event.Exit = false
keeps_threads (Event.Fault kind) = false
keeps_threads _ = true

-- the newest entry
abbrev pub newest : List Entry → Option Entry
newest [] = None
newest (e ∷ past) = Some e

-- the entry of a tick of the run
abbrev pub entry_at : Configuration → List (List ℕ) → ℕ → Option Entry
entry_at c programs t = newest (trace c programs (suc t))

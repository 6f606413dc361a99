-- Who read the tick in a tick of a run, and how its entry shows it.
use Rattle.std.specs.Prelude.{ℕ, ◌≡◌, ◌+◌, ◌*◌, ◌<◌, ◌≤◌, true, List, [], ◌∷◌, length, slice_range, slice_index_or, Option, Some, None}
use Rattle.std.specs.Option.{option_map_or}
use Rattle.dk_config.specs.Configuration.{Configuration}
use Rattle.dk_config.specs.Checked.{IsChecked, IsAccepted}
use Rattle.dk_isa.specs.declared.Instr.{Instr}
use Rattle.dk_isa.specs.Table.{instruction_of}
use Rattle.dk_trace.specs.declared.ThreadId.{ThreadId}
use Rattle.dk_trace.specs.declared.Work.{Work}
use Rattle.dk_trace.specs.declared.Label.{Label}
use Rattle.dk_trace.specs.declared.Event.{Event}
use Rattle.dk_trace.specs.declared.Entry.{Entry}
use Rattle.dk_trace.specs.Members.{Has}
use Rattle.dk_trace.specs.Threads.{Thread, family}
use Rattle.dk_trace.specs.Choices.{chosen}
use Rattle.dk_cpu.specs.declared.Context.{Context}
use Rattle.dk_cpu.specs.declared.Outcome.{Outcome}
use Rattle.dk_cpu.specs.declared.kernel_call.KernelCall.{KernelCall}
use Rattle.dk_world.specs.Run.{executes, tick_in, world, trace}
use Rattle.dk_repeat.specs.Repeat.{ReadsNoTickNext, keeps_threads}

-- a thread of the process ends a call that reads the tick in this tick of the run, whose entry is e, and is answered
pub record ReadsTickAt (c : Configuration) (programs : List (List ℕ)) (n : ℕ) (e : Entry) (p : ℕ) : Type 0 where
  pub thread : ThreadId
  pub process : thread.process ≡ p
  pub runs : executes (chosen c (trace c programs n)) ≡ Some thread
  pub ends : (tick_in c ((world c programs n).images thread.process) thread.serial).outcome ≡ Outcome.CallDone KernelCall.Time
  pub answered : e.event ≡ None

-- nobody does from tick s on and before tick n
abbrev pub NobodyReads : Configuration → List (List ℕ) → ℕ → ℕ → Type 0
NobodyReads c programs s n =
    (t : ℕ) (e : Entry) (p : ℕ) → s ≤ t → t < n → trace c programs (t + 1) ≡ e ∷ trace c programs t
    → ReadsTickAt c programs t e p → ⊥

-- a thread of the process did, in the last tick before tick n in which one did
pub record ReadLast (c : Configuration) (programs : List (List ℕ)) (n p : ℕ) : Type 0 where
  pub known : p < length c.processes
  pub tick : ℕ
  pub entry : Entry
  pub before : tick < n
  pub is : trace c programs (tick + 1) ≡ entry ∷ trace c programs tick
  pub reads : ReadsTickAt c programs tick entry p
  pub last : NobodyReads c programs (tick + 1) n

-- the thread at a kernel call, by the label of its tick
abbrev pub caller : Label → Option ThreadId
caller (Label.Call x) = Some x
caller (Label.Slack x source Work.Call) = Some x
caller _ = None

-- the same, where the tick has no event
abbrev pub quiet_caller : Entry → Option ThreadId
quiet_caller e = option_map_or (λ (event : Event). None) e.event (caller e.label)

-- the thread with this context isn't in a call, and the instruction before its next one is the call that reads the tick
pub record IsBehindRead (program : List ℕ) (x : Context) : Type 0 where
  pub over : x.left ≡ 0
  pub place : ℕ
  pub next : x.pc ≡ place + 1
  pub within : 4 * place + 4 ≤ length program
  pub is : instruction_of (slice_range program (4 * place) (4 * place + 4)) ≡ Some (Instr.Trap 9)

-- the same of the thread after so many ticks
abbrev pub HasRead : Configuration → List (List ℕ) → ℕ → ThreadId → Type 0
HasRead c programs n x =
    IsBehindRead (slice_index_or programs x.process []) (((world c programs n).images x.process).contexts x.serial)

-- a thread after so many ticks, which was not stopped
pub record RunsOn (c : Configuration) (programs : List (List ℕ)) (n : ℕ) (x : ThreadId) : Type 0 where
  pub process : x.process < length c.processes
  pub row : Thread
  pub among : Has (family c x.process (trace c programs n)) row
  pub name : row.id ≡ x
  pub running : row.stop ≡ None

-- what the entry e of a tick, and the contexts behind it, show of reads
pub record ShowsReads (c : Configuration) (programs : List (List ℕ)) (n : ℕ) (e : Entry) : Type 0 where
  -- the thread at a call without an event runs on
  pub there : (x : ThreadId) → quiet_caller e ≡ Some x → RunsOn c programs (n + 1) x
  -- it has read the tick exactly where it is behind such a call
  pub reads : (x : ThreadId) → quiet_caller e ≡ Some x → HasRead c programs (n + 1) x → ReadsTickAt c programs n e x.process
  pub only : (p : ℕ) → ReadsTickAt c programs n e p
      → (x : ThreadId) × (quiet_caller e ≡ Some x) × HasRead c programs (n + 1) x
  -- where nobody reads the tick and no thread is stopped no call ends that does
  pub quiet : option_map_or keeps_threads e.event true ≡ true → ((p : ℕ) → ReadsTickAt c programs n e p → ⊥)
      → ReadsNoTickNext c (world c programs n)

-- so does each entry of a run
abbrev pub EntriesShowReads : Type 0
EntriesShowReads =
    (c : Configuration) (programs : List (List ℕ)) (n : ℕ) (e : Entry) → IsChecked c → IsAccepted c
    → trace c programs (n + 1) ≡ e ∷ trace c programs n → ShowsReads c programs n e

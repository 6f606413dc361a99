-- Whether two kernels of a run are alike in memories and contexts.
use Rattle.std.specs.Prelude.{ℕ, ◌≡◌, length, Some, None, slice_get}
use Rattle.dk_trace.specs.declared.ThreadId.{ThreadId}
use Rattle.dk_trace.specs.Members.{Has}
use Rattle.dk_trace.specs.Threads.{Thread, family}
use Rattle.dk_cpu.specs.declared.Context.{Context}
use Rattle.dk_repeat.specs.Repeat.{ThreadsStandAlike}
use Rattle.dk_kernel.specs.Running.{Running, trace_of, world_of}
use Rattle.dk_inspect.specs.Printing.{shown_of}
use Rattle.dk_cycle.specs.Start.{AreImagesAlike}

-- they are of one configuration with its programs, one of each process, and their threads stand alike
pub record AreComparable (k l : Running) : Type 0 where
  pub config : l.config ≡ k.config
  pub programs : l.programs ≡ k.programs
  pub many : length k.programs ≡ length k.config.processes
  pub threads : ThreadsStandAlike k.config (trace_of k) (trace_of l)

abbrev pub context_of : Running → ThreadId → Context
context_of k id = ((world_of k).images id.process).contexts id.serial

abbrev pub IsSameContext : Running → Running → ℕ → Thread → Type 0
IsSameContext k l p x =
    ((world_of k).images p).contexts x.id.serial ≡ ((world_of l).images p).contexts x.id.serial

-- so is that of the thread at the place, where there is one and it runs on
abbrev pub IsSameAt : Running → Running → ℕ → ℕ → Type 0
IsSameAt k l p place = (x : Thread) → slice_get (shown_of k p) place ≡ Some x → x.stop ≡ None → IsSameContext k l p x

-- and those of all threads of the process that run on
abbrev pub IsSameImage : Running → Running → ℕ → Type 0
IsSameImage k l p = (x : Thread) → Has (family k.config p (trace_of k)) x → x.stop ≡ None → IsSameContext k l p x

-- one of these has another context
pub record HasOtherContext (k l : Running) (p : ℕ) : Type 0 where
  pub thread : Thread
  pub among : Has (family k.config p (trace_of k)) thread
  pub running : thread.stop ≡ None
  pub other : IsSameContext k l p thread → ⊥

abbrev pub IsSameMemory : Running → Running → ℕ → Type 0
IsSameMemory k l p = ((world_of k).images p).memory ≡ ((world_of l).images p).memory

abbrev pub HasOtherMemory : Running → Running → ℕ → Type 0
HasOtherMemory k l p = IsSameMemory k l p → ⊥

-- not all memories and contexts are equal
abbrev pub AreDifferent : Running → Running → Type 0
AreDifferent k l = AreImagesAlike k.config (world_of k) (world_of l) → ⊥

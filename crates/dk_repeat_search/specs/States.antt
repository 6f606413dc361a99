-- The threads of a process that run on, with their contexts.
use Rattle.std.specs.Prelude.{ℕ, ◌≡◌, if◌then◌else◌, List, [], ◌∷◌, length, map, filter, take, Option, Some, None, slice_get}
use Rattle.dk_trace.specs.Threads.{Thread}
use Rattle.dk_kernel.specs.Running.{Running, world_of}
use Rattle.dk_inspect.specs.Printing.{shown_of}
use Rattle.dk_cycle.specs.declared.run.ProcessState.{ProcessState}
use Rattle.dk_cycle.specs.declared.run.ThreadState.{ThreadState}
use Rattle.dk_cycle.specs.Run.{AreProcessStates, IsProcessState}
use Rattle.dk_cycle.specs.Seeking.{HoldsAll, runs_on, state_of}

-- the thread with its context, where it runs on
abbrev pub going_on : Running → ℕ → Option Thread → Option ThreadState
going_on k p None = None
going_on k p (Some x) = if runs_on x then Some (state_of (world_of k) p x) else None

-- the thread at the place of the process, where there is one and it runs on
abbrev pub IsThreadAt : Running → ℕ → ℕ → Option ThreadState → Type 0
IsThreadAt k p place o = o ≡ going_on k p (slice_get (shown_of k p) place)

-- those at the places below so many that run on, and no more
abbrev pub AreThreads : Running → ℕ → List ThreadState → ℕ → Type 0
AreThreads k p threads many = threads ≡ map (state_of (world_of k) p) (filter runs_on (take many (shown_of k p)))

abbrev pub listed : Option ThreadState → List ThreadState
listed None = []
listed (Some t) = t ∷ []

-- what the process is, with each thread that runs on, and no more
pub record IsWholeProcess (k : Running) (p : ℕ) (s : ProcessState) : Type 0 where
  pub is : IsProcessState k.config (world_of k) p s
  pub all : HoldsAll k.config (world_of k) s p

-- what the first so many processes are, and no more
pub record AreWhole (k : Running) (many : ℕ) (states : List ProcessState) : Type 0 where
  pub long : length states ≡ many
  pub are : AreProcessStates k.config (world_of k) many states
  pub all : (p : ℕ) (one : ProcessState) → slice_get states p ≡ Some one → HoldsAll k.config (world_of k) one p

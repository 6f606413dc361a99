-- What a process sees of its configuration, and what two runs say of it that number it differently.
use Rattle.std.specs.Prelude.{ℕ, ◌≡◌, ◌⊎◌, true, List, map}
use Rattle.dk_config.specs.Configuration.{Configuration}
use Rattle.dk_config.specs.Windows.{period, main_level, max_level, budget, memory, longest_hold}
use Rattle.dk_config.specs.Certification.{is_user}
use Rattle.dk_isa.specs.Calls.{HoldsNoCall}
use Rattle.dk_trace.specs.declared.ThreadId.{ThreadId}
use Rattle.dk_trace.specs.declared.Label.{Label}
use Rattle.dk_trace.specs.declared.Entry.{Entry}
use Rattle.dk_world.specs.Run.{World}
use Rattle.dk_alone.specs.Alone.{entries_of}

-- no instruction of the program is the call that makes a thread
abbrev pub MakesNoThread : List ℕ → Type 0
MakesNoThread program = HoldsNoCall 3 program

-- nor the call that locks a mutex
abbrev pub LocksNothing : List ℕ → Type 0
LocksNothing program = HoldsNoCall 5 program

-- the process may lock the same mutexes in both configurations, by their numbers, and hold each of them as long
pub record SeesTheSameMutexes (c : Configuration) (p : ℕ) (c' : Configuration) (p' : ℕ) : Type 0 where
  pub users : (m : ℕ) → is_user c m p ≡ is_user c' m p'
  pub holds : (m : ℕ) → is_user c m p ≡ true → longest_hold c m ≡ longest_hold c' m

-- The process p of one configuration sees what the process p' of the other sees, but for its time, which is its budget and the length
-- of its windows: the costs, its memory, and its mutexes. Those are seen by a lock alone, and the numbers of its levels by one call
-- alone, which a process without children is refused.
pub record SeesTheSameButTime (c : Configuration) (p : ℕ) (c' : Configuration) (p' : ℕ) (program : List ℕ) : Type 0 where
  pub switch : c.costs.switch ≡ c'.costs.switch
  pub call : c.costs.call ≡ c'.costs.call
  pub memory : memory c p ≡ memory c' p'
  pub mutexes : SeesTheSameMutexes c p c' p' ⊎ LocksNothing program
  pub levels : ((main_level c p ≡ main_level c' p') × (max_level c p ≡ max_level c' p')) ⊎ MakesNoThread program

-- it has the same budget too, maybe in windows of another length
pub record SeesTheSameButPeriod (c : Configuration) (p : ℕ) (c' : Configuration) (p' : ℕ) (program : List ℕ) : Type 0 where
  pub but_time : SeesTheSameButTime c p c' p' program
  pub budget : budget c p ≡ budget c' p'

-- and in windows of the same length
pub record SeesTheSame (c : Configuration) (p : ℕ) (c' : Configuration) (p' : ℕ) (program : List ℕ) : Type 0 where
  pub but_period : SeesTheSameButPeriod c p c' p' program
  pub period : period c (main_level c p) ≡ period c' (main_level c' p')

-- the thread with this serial of process p
abbrev pub renamed_thread : ℕ → ThreadId → ThreadId
renamed_thread p x = record { process = p; serial = x.serial }

abbrev pub renamed_label : ℕ → Label → Label
renamed_label p (Label.In x) = Label.In (renamed_thread p x)
renamed_label p (Label.Run x) = Label.Run (renamed_thread p x)
renamed_label p (Label.Call x) = Label.Call (renamed_thread p x)
renamed_label p (Label.Out x) = Label.Out (renamed_thread p x)
renamed_label p (Label.Slack x source work) = Label.Slack (renamed_thread p x) source work
renamed_label p (Label.Kernel i) = Label.Kernel i
renamed_label p Label.Idle = Label.Idle

-- the entry, where its thread is one of process p
abbrev pub renamed : ℕ → Entry → Entry
renamed p e = record { label = renamed_label p e.label; event = e.event }

-- The worlds are the same, the one for process p and the other for p': the entries but for the number of the process, the
-- memory and the contexts.
pub record IsSameAcross (p p' : ℕ) (one other : World) : Type 0 where
  pub entries : map (renamed p') (entries_of p one.past) ≡ entries_of p' other.past
  pub memory : (one.images p).memory ≡ (other.images p').memory
  pub contexts : (serial : ℕ) → (one.images p).contexts serial ≡ (other.images p').contexts serial

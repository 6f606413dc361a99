-- Which threads of a past count, and what the levels need at tick 0.
use Rattle.std.specs.Prelude.{ℕ, ◌≡◌, ◌+◌, ◌<◌, ◌≤◌, true, false, List, [], length}
use Rattle.dk_config.specs.Configuration.{Configuration}
use Rattle.dk_config.specs.Windows.{main_level, release}
use Rattle.dk_config.specs.Certification.{is_user, budgets_at, level_demand}
use Rattle.dk_trace.specs.declared.ThreadId.{ThreadId}
use Rattle.dk_trace.specs.declared.Entry.{Entry}
use Rattle.dk_trace.specs.Members.{Has}
use Rattle.dk_trace.specs.Threads.{Thread, threads, family, is_void, is_ended_by}
use Rattle.dk_trace.specs.declared.Choice.{Choice}
use Rattle.dk_trace.specs.Choices.{chosen}
use Rattle.dk_trace.specs.Jobs.{thread_rem, kernel_rem}
use Rattle.dk_trace.specs.Holds.{Hold, held_by, is_holding}
use Rattle.dk_trace.specs.Slack.{want}
use Rattle.dk_trace.specs.Demand.{own_demand, remaining_demand}

-- the process and the level of a thread are there, and it is no faster than its main
pub record IsPlaced (c : Configuration) (past : List Entry) (x : Thread) : Type 0 where
  pub among : Has (family c x.id.process past) x
  pub process : x.id.process < length c.processes
  pub level : x.level < length c.levels
  pub above : main_level c x.id.process ≤ x.level

abbrev pub ThreadsPlaced : Configuration → List Entry → Type 0
ThreadsPlaced c past = (x : Thread) → Has (threads c past) x → IsPlaced c past x

-- neither void nor ended
pub record IsThere (c : Configuration) (now : ℕ) (x : Thread) : Type 0 where
  pub started : is_void x ≡ false
  pub lasts : is_ended_by c now x ≡ false

-- a thread that asks for slack is there
abbrev pub AskersThere : Configuration → List Entry → Type 0
AskersThere c past = (x : Thread) → Has (threads c past) x → 0 < want c (length past) past x → IsThere c (length past) x

-- whoever holds a mutex is a thread, and a user of each mutex that it holds
pub record IsHolder (c : Configuration) (past : List Entry) (x : ThreadId) : Type 0 where
  pub thread : Thread
  pub among : Has (threads c past) thread
  pub name : thread.id ≡ x
  pub users : (h : Hold) → Has (held_by x past) h → is_user c h.mutex x.process ≡ true

abbrev pub HoldersKnown : Configuration → List Entry → Type 0
HoldersKnown c past = (x : ThreadId) → is_holding (held_by x past) ≡ true → IsHolder c past x

-- at tick 0 a level has its release work and the budgets of its processes to do
abbrev pub StartsWithBudgets : Configuration → Type 0
StartsWithBudgets c = (j : ℕ) → j < length c.levels → own_demand c 0 [] j ≡ release c j + budgets_at c j

-- and the levels up to it need what certification counts
abbrev pub StartsWithDemand : Configuration → Type 0
StartsWithDemand c = (j : ℕ) → j < length c.levels → remaining_demand c 0 [] j ≡ level_demand c j

-- what is known of whoever has the tick
pub record HasWork (c : Configuration) (past : List Entry) (x : ThreadId) : Type 0 where
  pub thread : Thread
  pub among : Has (threads c past) thread
  pub name : thread.id ≡ x
  pub rem : 0 < thread_rem c (length past) past thread

pub record HasWish (c : Configuration) (past : List Entry) (x : ThreadId) : Type 0 where
  pub thread : Thread
  pub among : Has (threads c past) thread
  pub name : thread.id ≡ x
  pub rem : thread_rem c (length past) past thread ≡ 0
  pub wants : 0 < want c (length past) past thread

abbrev pub ChoiceHolds : Configuration → List Entry → Choice → Type 0
ChoiceHolds c past (Choice.Kernel k) = (k < length c.levels) × (0 < kernel_rem c (length past) past k)
ChoiceHolds c past (Choice.Budget x part) = HasWork c past x
ChoiceHolds c past (Choice.Slack x source part) = HasWish c past x
ChoiceHolds c past Choice.Idle = Unit {0}

-- the choice goes to work that there is, or to a thread that asks
abbrev pub ChosenHolds : Configuration → List Entry → Type 0
ChosenHolds c past = ChoiceHolds c past (chosen c past)

-- What the laws of the bound say of the present tick of a past.
use Rattle.std.specs.Prelude.{ℕ, ◌≡◌, ◌+◌, ◌-◌, ◌%◌, ◌<◌, ◌≤◌, suc, true, false, List, [], ◌∷◌, length, Option, Some, None, is_some}
use Rattle.dk_config.specs.Configuration.{Configuration}
use Rattle.dk_config.specs.Windows.{period, window_end}
use Rattle.dk_config.specs.Certification.{level_blocking, spare}
use Rattle.dk_trace.specs.declared.ThreadId.{ThreadId}
use Rattle.dk_trace.specs.declared.Phase.{Phase}
use Rattle.dk_trace.specs.declared.Work.{Work}
use Rattle.dk_trace.specs.declared.Choice.{Choice}
use Rattle.dk_trace.specs.declared.Source.{Source}
use Rattle.dk_trace.specs.declared.Entry.{Entry}
use Rattle.dk_trace.specs.Members.{Has}
use Rattle.dk_trace.specs.Entries.{thread_of}
use Rattle.dk_trace.specs.Threads.{Thread, threads}
use Rattle.dk_trace.specs.Jobs.{job, phase, thread_rem, thread_body_left, kernel_rem}
use Rattle.dk_trace.specs.Holds.{Hold, held_by, is_holder, is_held, hold_left, innermost_left, effective_level, thread_blocking, blocking}
use Rattle.dk_trace.specs.Slack.{source, unclaimed, want}
use Rattle.dk_trace.specs.Demand.{own_demand, remaining_demand, fits}
use Rattle.dk_trace.specs.Choices.{chosen, choice_at, work_at, wish_at, denied}
use Rattle.dk_trace.specs.Refusals.{lock_refusal}
use Rattle.dk_trace.specs.Audit.{label_of, HasChosenLabel, row_of, without_event}

-- each level with unfinished work still fits its window, with what it waits for slower threads
abbrev pub DemandFits : Configuration → List Entry → Type 0
DemandFits c past =
    (j : ℕ) → j < length c.levels → 0 < own_demand c (length past) past j
    → remaining_demand c (length past) past j + blocking c past j ≤ window_end c j (length past) - length past

-- where whoever has the tick may lock a mutex, nobody holds it
abbrev pub LockFindsFree : Configuration → List Entry → Type 0
LockFindsFree c past =
    (e : Entry) (x : ThreadId) (row : Thread) (m : ℕ) → HasChosenLabel (chosen c past) e.label
    → thread_of e.label ≡ Some x → row_of c past x ≡ Some row
    → lock_refusal c (length past) (without_event e ∷ past) row m ≡ None → (y : ThreadId)
    → is_held m (held_by y past) ≡ false

-- at most one thread keeps a level waiting
abbrev pub OneBlocks : Configuration → List Entry → Type 0
OneBlocks c past =
    (j : ℕ) (x y : Thread) → Has (threads c past) x → Has (threads c past) y → 0 < thread_blocking c past j x
    → 0 < thread_blocking c past j y → x ≡ y

-- and no level waits for longer than certification counts
abbrev pub BlocksAtMost : Configuration → List Entry → Type 0
BlocksAtMost c past = (j : ℕ) → j < length c.levels → blocking c past j ≤ level_blocking c j

-- A request for slack comes first, and slack doesn't fit.
pub record IsDenied (c : Configuration) (past : List Entry) : Type 0 where
  pub level : ℕ
  pub known : level < length c.levels
  pub first : (i : ℕ) → i < level → choice_at c past i ≡ None
  pub no_work : work_at c past level ≡ None
  pub asks : is_some (wish_at c past level) ≡ true
  pub tight : fits c (length past) past ≡ false

-- the level that slack is denied for: it has work, and not a tick to give
pub record DeniedFor (c : Configuration) (past : List Entry) (j : ℕ) : Type 0 where
  pub answer : denied c past ≡ Some j
  pub known : j < length c.levels
  pub own : 0 < own_demand c (length past) past j
  pub full : remaining_demand c (length past) past j + blocking c past j ≡ window_end c j (length past) - length past

-- a denial has its level, and is told only where slack is denied
abbrev pub DenialIsTight : Configuration → List Entry → Type 0
DenialIsTight c past = (IsDenied c past → (j : ℕ) × DeniedFor c past j)
    × ((j : ℕ) → denied c past ≡ Some j → IsDenied c past)

-- while the timeline has slack left, slack fits and nobody is denied
abbrev pub TimelineFits : Configuration → List Entry → Type 0
TimelineFits c past =
    ((j : ℕ) → j < length c.levels → unclaimed c (length past) past j < spare c j)
    → (fits c (length past) past ≡ true) × (denied c past ≡ None)

-- the slack that is lent from the timeline fits
abbrev pub SourceFits : Configuration → List Entry → Type 0
SourceFits c past = source c (length past) past ≡ Source.Timeline → fits c (length past) past ≡ true

-- the thread that is chosen, if it is one
abbrev pub chosen_thread : Configuration → List Entry → Option ThreadId
chosen_thread c past = thread_of (label_of (chosen c past) Work.Run)

-- the thread has a row
pub record IsKnown (c : Configuration) (past : List Entry) (x : ThreadId) : Type 0 where
  pub row : Thread
  pub found : row_of c past x ≡ Some row
  pub id : row.id ≡ x

-- every choice names a thread that has a row
abbrev pub ChoosesKnown : Configuration → List Entry → Type 0
ChoosesKnown c past = (x : ThreadId) → chosen_thread c past ≡ Some x → IsKnown c past x

-- the thread has a row, and something left of its share, of which the phase comes next
pub record Works (c : Configuration) (past : List Entry) (x : ThreadId) (next : Phase) : Type 0 where
  pub row : Thread
  pub found : row_of c past x ≡ Some row
  pub left : 0 < thread_rem c (length past) past row
  pub phase : next ≡ phase c.costs.switch (job c (length past) past row)

-- the thread has a row, nothing left of its share, and a request for slack that isn't met
pub record Borrows (c : Configuration) (past : List Entry) (x : ThreadId) : Type 0 where
  pub row : Thread
  pub found : row_of c past x ≡ Some row
  pub none : thread_rem c (length past) past row ≡ 0
  pub wants : 0 < want c (length past) past row

abbrev pub HasCause : Configuration → List Entry → Choice → Type 0
HasCause c past (Choice.Kernel i) = 0 < kernel_rem c (length past) past i
HasCause c past (Choice.Budget x phase) = Works c past x phase
HasCause c past (Choice.Slack x source phase) = Borrows c past x
HasCause c past Choice.Idle = Unit {0}

-- every tick goes where something is left, or to a thread that has nothing left and asks for slack
abbrev pub ChoosesWithCause : Configuration → List Entry → Type 0
ChoosesWithCause c past = HasCause c past (chosen c past)

-- where a window ends, the threads of its level have nothing left
abbrev pub EndsSpent : Configuration → List Entry → Type 0
EndsSpent c [] = Unit {0}
EndsSpent c (e ∷ past) =
    (x : Thread) → Has (threads c (e ∷ past)) x → suc (length past) % period c x.level ≡ 0
    → thread_rem c (length past) (e ∷ past) x ≡ 0

-- a holder that is chosen for the last tick of a hold executes in it
abbrev pub LastTickExecutes : Configuration → List Entry → Type 0
LastTickExecutes c past =
    (x : ThreadId) → chosen_thread c past ≡ Some x → innermost_left c (held_by x past) ≡ 1
    → chosen c past ≡ Choice.Budget x Phase.Body

-- what is known of a thread that holds a mutex
pub record HolderStands (c : Configuration) (past : List Entry) (x : Thread) : Type 0 where
  pub running : x.stop ≡ None
  pub unclosed : (job c (length past) past x).closed ≡ false
  pub rem : 0 < thread_rem c (length past) past x
  -- it has time for each mutex that it holds
  pub left : (h : Hold) → Has (held_by x.id past) h → (1 ≤ hold_left c h)
      × (hold_left c h ≤ thread_body_left c (length past) past x)

abbrev pub HoldersStand : Configuration → List Entry → Type 0
HoldersStand c past = (x : Thread) → Has (threads c past) x → is_holder past x ≡ true → HolderStands c past x

-- no two holders run at one level
abbrev pub LevelsDiffer : Configuration → List Entry → Type 0
LevelsDiffer c past =
    (x y : Thread) → Has (threads c past) x → Has (threads c past) y → is_holder past x ≡ true → is_holder past y ≡ true
    → effective_level c past x ≡ effective_level c past y → x ≡ y

-- nobody holds a mutex where a window of its level begins
abbrev pub BeginsFree : Configuration → List Entry → Type 0
BeginsFree c past = (x : Thread) → Has (threads c past) x → length past % period c x.level ≡ 0
    → is_holder past x ≡ false

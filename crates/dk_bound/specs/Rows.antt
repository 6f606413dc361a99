-- The rows of the threads.
use Rattle.std.specs.Prelude.{ℕ, ◌≡◌, ◌<◌, ◌≤◌, Bool, true, false, ◌||◌, List, ◌∷◌, length, Some}
use Rattle.dk_config.specs.Configuration.{Configuration}
use Rattle.std.specs.Int.{◌∣◌}
use Rattle.dk_config.specs.Windows.{period, main_level, max_level}
use Rattle.dk_trace.specs.declared.Entry.{Entry}
use Rattle.dk_trace.specs.Members.{Has}
use Rattle.dk_trace.specs.Threads.{Thread, threads, family, is_main, is_void, is_ended_by, share}
use Rattle.dk_trace.specs.Jobs.{thread_rem}
use Rattle.dk_trace.specs.Slack.{level_of}

-- a thread's id tells its level
abbrev pub IdsTellLevels : Configuration → List Entry → Type 0
IdsTellLevels c past = (x : Thread) → Has (threads c past) x → level_of (threads c past) x.id ≡ Some x.level

-- stopped before its start, or past its end
abbrev pub is_gone : Configuration → ℕ → Thread → Bool
is_gone c now x = is_void x || is_ended_by c now x

-- Who is gone or hasn't started has nothing, and who is gone gets nothing more.
pub record AbsentHaveNothing (c : Configuration) (past : List Entry) : Type 0 where
  pub gone : (x : Thread) → Has (threads c past) x → is_gone c (length past) x ≡ true
      → thread_rem c (length past) past x ≡ 0
  pub waiting : (x : Thread) → Has (threads c past) x → length past < x.start → thread_rem c (length past) past x ≡ 0
  pub shares : (x : Thread) (s : ℕ) → Has (threads c past) x → is_gone c (length past) x ≡ true → length past ≤ s
      → share c past x s ≡ 0

-- what is known of a child's row
pub record ChildStands (c : Configuration) (past : List Entry) (p : ℕ) (y : Thread) : Type 0 where
  pub process : y.id.process ≡ p
  pub child : is_main y ≡ false
  pub serial : y.id.serial < length (family c p past)
  pub low : main_level c p ≤ y.level
  pub high : y.level ≤ max_level c p
  pub known : y.level < length c.levels
  pub aligned : period c y.level ∣ y.start
  pub stopped : (t : ℕ) → y.stop ≡ Some t → t < length past

-- A process has its main's row first, and then those of its children.
pub record FamilyStands (c : Configuration) (past : List Entry) (p : ℕ) : Type 0 where
  pub main : Thread
  pub children : List Thread
  pub rows : family c p past ≡ main ∷ children
  pub id : main.id ≡ record { process = p; serial = 0 }
  pub level : main.level ≡ main_level c p
  pub start : main.start ≡ 0
  pub stopped : (t : ℕ) → main.stop ≡ Some t → t < length past
  pub each : (y : Thread) → Has children y → ChildStands c past p y
  pub distinct : (y z : Thread) → Has children y → Has children z → y.id.serial ≡ z.id.serial → y ≡ z

abbrev pub FamiliesStand : Configuration → List Entry → Type 0
FamiliesStand c past = (p : ℕ) → p < length c.processes → FamilyStands c past p

-- No two rows have one id, a row is among its own process's, and those of each process are among all.
pub record RowsAreNamed (c : Configuration) (past : List Entry) : Type 0 where
  pub distinct : (x y : Thread) → Has (threads c past) x → Has (threads c past) y → x.id ≡ y.id → x ≡ y
  pub place : (x : Thread) → Has (threads c past) x → (x.id.process < length c.processes)
      × Has (family c x.id.process past) x
  pub all : (p : ℕ) (x : Thread) → p < length c.processes → Has (family c p past) x → Has (threads c past) x

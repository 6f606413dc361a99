-- What is known of the thread that is in a call at the end of a tick, and of the holds of each thread.
use Rattle.std.specs.Prelude.{ℕ, suc, ◌≡◌, ◌<◌, ◌≤◌, ◌⊎◌, true, false, List, [], ◌∷◌, length, Some, None}
use Rattle.dk_config.specs.Configuration.{Configuration}
use Rattle.dk_trace.specs.declared.ThreadId.{ThreadId}
use Rattle.dk_trace.specs.declared.Label.{Label}
use Rattle.dk_trace.specs.declared.Work.{Work}
use Rattle.dk_trace.specs.declared.Event.{Event}
use Rattle.dk_trace.specs.declared.Entry.{Entry}
use Rattle.dk_trace.specs.Members.{Has}
use Rattle.dk_trace.specs.Entries.{is_of, thread_of}
use Rattle.dk_trace.specs.Threads.{Thread, threads}
use Rattle.dk_trace.specs.Jobs.{is_closed, thread_rem}
use Rattle.dk_trace.specs.Holds.{Hold, held_by, hold_left}
use Rattle.dk_trace.specs.Slack.{want}
use Rattle.dk_trace.specs.Choices.{chosen}
use Rattle.dk_trace.specs.Audit.{HasChosenLabel, row_of, work_of}

-- the innermost hold has at least so many ticks left, and each further one more than the one inside it
abbrev pub AreNested : Configuration → ℕ → List Hold → Type 0
AreNested c low [] = Unit {0}
AreNested c low (h ∷ held) = (low ≤ hold_left c h) × AreNested c (suc (hold_left c h)) held

-- between two ticks each hold has a tick left, and those of one thread rise from the innermost on
abbrev pub HoldsNest : Configuration → List Entry → Type 0
HoldsNest c past = (x : ThreadId) → AreNested c 1 (held_by x past)

-- The thread has a row, isn't closed, and has something left or asks for slack.
pub record CallerStands (c : Configuration) (past : List Entry) (x : ThreadId) : Type 0 where
  pub row : Thread
  pub found : row_of c past x ≡ Some row
  pub among : Has (threads c past) row
  pub id : row.id ≡ x
  pub unclosed : is_closed c (length past) past row ≡ false
  pub active : (0 < thread_rem c (length past) past row) ⊎ (0 < want c (length past) past row)

-- So it is with whoever is in a call in the tick of a choice.
abbrev pub CallersStand : Configuration → List Entry → Type 0
CallersStand c past =
    (label : Label) (x : ThreadId) → HasChosenLabel (chosen c past) label → thread_of label ≡ Some x
    → work_of label ≡ Work.Call → CallerStands c past x

-- Whoever has an event hasn't been stopped.
abbrev pub CallersRun : Configuration → Entry → List Entry → Type 0
CallersRun c e past =
    (x : Thread) (event : Event) → Has (threads c past) x → is_of x.id e ≡ true → e.event ≡ Some event → x.stop ≡ None

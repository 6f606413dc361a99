-- What a kernel call does to where the run stands.
use Rattle.std.specs.Prelude.{ℕ, ◌≡◌, ◌≤◌, ◌∷◌, true, false, length, Option, Some, None, Result, MatchResult}
use Rattle.dk_config.specs.declared.TheConstants.{MAX_CHILDREN}
use Rattle.dk_config.specs.Windows.{window_end}
use Rattle.dk_trace.specs.declared.ThreadId.{ThreadId}
use Rattle.dk_trace.specs.declared.Work.{Work}
use Rattle.dk_trace.specs.declared.Event.{Event}
use Rattle.dk_trace.specs.declared.Refusal.{Refusal}
use Rattle.dk_trace.specs.declared.Entry.{Entry}
use Rattle.dk_trace.specs.Entries.{thread_of, is_of, is_end, has_event, quiet}
use Rattle.dk_trace.specs.Holds.{held_by, is_held}
use Rattle.dk_trace.specs.Audit.{Follows, next_serial, work_of}
use Rattle.dk_threads.specs.declared.row.State.{State}
use Rattle.dk_threads.specs.declared.row.ThreadRow.{ThreadRow}
use Rattle.dk_threads.specs.Table.{children_at, free_slot}
use Rattle.dk_recount.specs.Tables.{Tables}
use Rattle.dk_recount.specs.Events.{refusal_of}
use Rattle.dk_recount.specs.Facing.{Adds, HasOwn, create_refusal_of}
use Rattle.dk_past.specs.declared.history.Note.{Note}
use Rattle.dk_past.specs.Noted.{noted}
use Rattle.dk_past.specs.Past.{Past, Charged, call_label, with_entry, with_event}
use Rattle.dk_dispatch.specs.Standing.{Dispatched, slots}

-- the open tick is charged, and the thread that has it may be in a call at its end
pub record IsInCall (x : ThreadId) (p : Past) : Type 0 where
  pub charged : p.tick ≡ Charged
  pub caller : thread_of (call_label p) ≡ Some x
  pub call : work_of (call_label p) ≡ Work.Call

-- the open tick is charged, and its entry, which follows the rules, is the thread's exit or fault
pub record IsEnding (x : ThreadId) (e : Entry) (p : Past) : Type 0 where
  pub charged : p.tick ≡ Charged
  pub follows : Follows p.config p.entries e
  pub own : is_of x e ≡ true
  pub end : has_event is_end e ≡ true

-- and this is noted of it
pub record EndsAs (x : ThreadId) (note : Note) (p : Past) : Type 0 where
  pub entry : Entry
  pub ending : IsEnding x entry p
  pub next : noted p note ≡ with_entry entry p

-- the first reason against the call of the thread that would end with this event
abbrev pub call_refusal : Past → ThreadId → Event → Option Refusal
call_refusal p x event = refusal_of p.config (call_label p) p.entries x event

-- by the entries before the open tick nobody holds the mutex
abbrev pub IsFree : ℕ → Past → Type 0
IsFree m p = (y : ThreadId) → is_held m (held_by y p.entries) ≡ false

-- nothing is against the call, and its event is booked
pub record IsDone (x : ThreadId) (event : Event) (old new : Dispatched) : Type 0 where
  pub met : call_refusal old.past x event ≡ None
  pub past : new.past ≡ with_event event old.past

-- this is against it, and nothing has changed
pub record IsRefused (x : ThreadId) (event : Event) (old new : Dispatched) (why : Refusal) : Type 0 where
  pub reason : call_refusal old.past x event ≡ Some why
  pub same : new ≡ old

-- nothing is against the call that is answered so, or it is refused
abbrev pub IsAnswered : {T : Type 0} → Result T Refusal → ThreadId → Event → Dispatched → Dispatched → Type 0
IsAnswered answer x event old new = MatchResult answer (λ _. IsDone x event old new) (IsRefused x event old new)

-- the same by the tables: by this reason, if there is one, it is refused, and else it makes these of them
abbrev pub Makes : {T : Type 0} → Result T Refusal → Option Refusal → Tables → Tables → Tables → Type 0
Makes answer reason old made new =
    MatchResult answer (λ _. (reason ≡ None) × (new ≡ made)) (λ why. (reason ≡ Some why) × (new ≡ old))

-- the first reason against a create
abbrev pub no_child : Past → ThreadId → ℕ → ℕ → ℕ → ℕ → Option Refusal
no_child p x level quota entry instructions =
    create_refusal_of p.config (call_label p) p.entries x level quota entry instructions

-- the row of the next child of the thread's process, at this level: it has the lowest slot that no child has, and waits
-- for its start, which is where the present window of the level ends
abbrev pub next_child : Dispatched → ThreadId → ℕ → ThreadRow
next_child d x level = record {
  id = record {
    process = x.process;
    serial = next_serial d.past.config (quiet (call_label d.past) ∷ d.past.entries) x.process;
  };
  level = level;
  slot = free_slot (children_at d.threads x.process);
  state = State.Starting;
  start = window_end d.past.config level (length d.past.entries);
  end = None;
}

-- nothing is against the create: there is a row more, of that child, whose slot is its own, and its event is booked
pub record IsCreated (x : ThreadId) (level quota entry instructions : ℕ) (old new : Dispatched)
    (row : ThreadRow) : Type 0 where
  pub child : row ≡ next_child old x level
  pub fits : row.slot ≤ MAX_CHILDREN
  pub added : Adds (slots old) (slots new) row.id row.slot
  pub own : HasOwn (slots new) row.id row.slot
  pub met : no_child old.past x level quota entry instructions ≡ None
  pub past : new.past ≡ with_event (Event.Create row.id.serial level quota) old.past

pub record IsNotCreated (x : ThreadId) (level quota entry instructions : ℕ) (old new : Dispatched)
    (why : Refusal) : Type 0 where
  pub reason : no_child old.past x level quota entry instructions ≡ Some why
  pub same : new ≡ old

-- What is kept of a thread while a ledger is read.
use Rattle.std.specs.Prelude.{ℕ, ◌≡◌, ◌<◌, ◌+◌, ◌-◌, ◌%◌, ◌==◌, ◌||◌, ◌&&◌, not, Bool, true, false, nat_lt, min, max, if◌then◌else◌, List, [], ◌∷◌, ◌++◌, length, map}
use Rattle.std.specs.List.{list_any}
use Rattle.dk_trace.specs.declared.ThreadId.{ThreadId}
use Rattle.dk_trace.specs.declared.Event.{Event}
use Rattle.dk_trace.specs.declared.Entry.{Entry}
use Rattle.dk_trace.specs.Entries.{has_event, is_budget_of, does, is_wait, stops}
use Rattle.dk_ledger.specs.Heading.{Heading}
use Rattle.dk_window_report.specs.declared.row.Did.{Did}
use Rattle.dk_window_report.specs.declared.row.WindowCounts.{WindowCounts}
use Rattle.dk_window_report.specs.declared.row.Row.{Row}
use Rattle.dk_window_report.specs.declared.account.Account.{Account}
use Rattle.dk_window_report.specs.Accounts.{accounts_of, accounts_with}
use Rattle.dk_window_report.specs.Windows.{present_window, did_in, is_overrun, once}
use Rattle.dk_window_report.specs.Owners.{Owner, owners, own_entries, made_in, did_of, numbers_of}

-- one more, up to the last value of 32 bits
abbrev pub raised : ℕ → ℕ
raised n = min (n + 1) 4294967295

abbrev pub raised_if : Bool → ℕ → ℕ
raised_if b n = if b then raised n else n

-- what the thread did in a window with one more entry, of which there were so many before, where it may have been stopped
-- in a window before
abbrev pub did_with : Bool → ThreadId → Entry → ℕ → Did → Did
did_with gone x e ticks d = record {
  used = raised_if (is_budget_of x e) d.used;
  done = if is_budget_of x e then raised ticks else d.done;
  waited = does is_wait x e || d.waited;
  stopped = (not gone && stops x e) || d.stopped;
}

-- the lesser, where there were windows before
abbrev pub lesser : ℕ → ℕ → ℕ → ℕ
lesser windows m n = if windows == 0 then n else min m n

-- the first window that it overran, with one more
abbrev pub first_with : WindowCounts → Did → ℕ
first_with c d = if (c.first_overran == 0) && is_overrun d then raised c.windows else c.first_overran

-- the numbers with one more window, where the thread may have been stopped before
abbrev pub counts_with : Bool → WindowCounts → Did → WindowCounts
counts_with gone c d = record {
  windows = if gone then c.windows else raised c.windows;
  waited = raised_if d.waited c.waited;
  stopped = raised_if d.stopped c.stopped;
  overran = raised_if (is_overrun d) c.overran;
  first_overran = if gone then c.first_overran else first_with c d;
  least_used = if gone then c.least_used else lesser c.windows c.least_used d.used;
  most_used = if gone then c.most_used else max c.most_used d.used;
  first_done = if gone then c.first_done else lesser c.windows c.first_done d.done;
  last_done = if gone then c.last_done else max c.last_done d.done;
}

abbrev pub nothing_done : Did
nothing_done = record { used = 0; done = 0; waited = false; stopped = false }

-- the row whose present window ended with this
abbrev pub ended : Row → Did → Row
ended r d = record r {
  did = nothing_done;
  counts = counts_with r.gone r.counts d;
  gone = r.gone || d.stopped;
}

-- the row with this in its present window, of which so many ticks came before; it ends where it has all its ticks
abbrev pub filled : ℕ → Row → Did → Row
filled ticks r d = if ticks + 1 == r.period then ended r d else record r { did = d }

-- the row with one more entry of its windows
abbrev pub stepped_at : ℕ → Entry → Row → Row
stepped_at ticks e r = filled ticks r (did_with r.gone r.thread e ticks r.did)

-- the row with the entry of this tick
abbrev pub stepped : ℕ → Entry → Row → Row
stepped now e r = if nat_lt now r.since then r else stepped_at ((now - r.since) % r.period) e r

-- what is kept of a thread after these entries
abbrev pub row_of : List Entry → Owner → Row
row_of past o = record {
  thread = o.id;
  period = o.period;
  since = o.since;
  did = once (list_any (λ d. d.stopped) (did_of o past))
      (did_in o.id (present_window o.period (own_entries o.since past)));
  counts = numbers_of past o;
  gone = list_any (λ d. d.stopped) (did_of o past);
}

abbrev pub rows_of : Heading → List Entry → List Row
rows_of h past = map (row_of past) (owners h past)

abbrev pub is_trouble : Event → Bool
is_trouble (Event.Refused refusal) = true
is_trouble (Event.Fault kind) = true
is_trouble _ = false

-- what is kept of all threads and processes, how many entries there were, and whether a call was refused or a thread faulted
pub record Kept : Type 0 where
  pub rows : List Row
  pub accounts : List Account
  pub ticks : ℕ
  pub troubled : Bool

-- this is kept after these entries
pub record IsKeptOf (h : Heading) (past : List Entry) (k : Kept) : Type 0 where
  pub rows : k.rows ≡ rows_of h past
  pub accounts : k.accounts ≡ accounts_of h past
  pub ticks : k.ticks ≡ length past
  pub troubled : k.troubled ≡ list_any (has_event is_trouble) past

-- a row of which no window has begun
abbrev pub fresh : ThreadId → ℕ → ℕ → Row
fresh x period since = record {
  thread = x;
  period = period;
  since = since;
  did = nothing_done;
  counts = record {
    windows = 0;
    waited = 0;
    stopped = 0;
    overran = 0;
    first_overran = 0;
    least_used = 0;
    most_used = 0;
    first_done = 0;
    last_done = 0;
  };
  gone = false;
}

-- the row of a thread of which no entry has come
abbrev pub new_row : Owner → Row
new_row o = fresh o.id o.period o.since

-- what is kept of a thread before any entry
abbrev pub RowsStart : Type 0
RowsStart = (o : Owner) → row_of [] o ≡ new_row o

-- and behind one entry more
abbrev pub RowsStep : Type 0
RowsStep =
    (o : Owner) (e : Entry) (past : List Entry) → length past < 4294967295
    → row_of (e ∷ past) o ≡ stepped (length past) e (row_of past o)

-- what is kept after one entry more
abbrev pub kept_with : Heading → Entry → Kept → Kept
kept_with h e k = record {
  rows = map (stepped k.ticks e) k.rows ++ map new_row (made_in h k.ticks e);
  accounts = accounts_with k.ticks e k.accounts;
  ticks = k.ticks + 1;
  troubled = has_event is_trouble e || k.troubled;
}

-- What the windows say of the counts, and what the last ticks are.
use Rattle.std.specs.Prelude.{◌≡◌, ◌<◌, ◌≤◌, ◌+◌, All, List, length, reverse, slice_get, sum_by, true, false}
use Rattle.std.specs.Option.{option_map_or}
use Rattle.dk_trace.specs.declared.Entry.{Entry}
use Rattle.dk_trace.specs.Entries.{is_budget_of}
use Rattle.dk_ledger.specs.Heading.{Heading}
use Rattle.dk_window_report.specs.Owners.{Owner, numbers_of, owners}
use Rattle.dk_overrun_spans.specs.declared.overrun.Overrun.{Overrun}
use Rattle.dk_overrun_spans.specs.Found.{overran_at}
use Rattle.dk_overrun_spans.specs.Overruns.{overruns}

-- as many windows are told of a thread as it overran
abbrev pub AreAllTold : Type 0
AreAllTold = (o : Owner) (past : List Entry) → length past < 4294967295 → length (overran_at o past) ≡ (numbers_of past o).overran

-- as many windows are told as the threads overran
abbrev pub AreAllCounted : Type 0
AreAllCounted =
    (h : Heading) (es : List Entry) → length es < 4294967295
    → length (overruns h es) ≡ sum_by (λ o. (numbers_of (reverse es) o).overran) (owners h (reverse es))

-- the last tick is one of the window, and one that the thread's budget paid for
abbrev pub IsLastPaid : List Entry → Overrun → Type 0
IsLastPaid es o =
    (o.start ≤ o.last) × (o.last < o.start + o.period) × (option_map_or (is_budget_of o.thread) (slice_get es o.last) false ≡ true)

-- so it is of each
abbrev pub AreLastPaid : Type 0
AreLastPaid = (h : Heading) (es : List Entry) → length es < 4294967295 → All (IsLastPaid es) (overruns h es)

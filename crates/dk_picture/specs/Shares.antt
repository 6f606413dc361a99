-- What each main used of its budget, in each of its windows that lies in the range, and whether it overran it.
use Rattle.std.specs.Prelude.{ℕ, ◌+◌, ◌-◌, ◌++◌, ◌==◌, ◌&&◌, ◌||◌, not, [], ◌∷◌, Bool, false, List, codes, decimal, flat_map, if◌then◌else◌, length, max, min, nat_le, nat_lt, sum_by}
use Rattle.std.specs.List.{list_any}
use Rattle.std.specs.Option.{option_map_or}
use Rattle.dk_config.specs.Sums.{below}
use Rattle.dk_trace.specs.declared.ThreadId.{ThreadId}
use Rattle.dk_trace.specs.declared.Event.{Event}
use Rattle.dk_trace.specs.declared.Label.{Label}
use Rattle.dk_trace.specs.Entries.{is_budget_of, is_end, is_same, is_wait, quiet, thread_of}
use Rattle.dk_ledger.specs.declared.line.LedgerLine.{LedgerLine}
use Rattle.dk_ledger.specs.Heading.{Heading}
use Rattle.dk_picture.specs.declared.frame.Frame.{Frame}
use Rattle.dk_picture.specs.declared.shares.Share.{Share}
use Rattle.dk_picture.specs.declared.span.Span.{Span}
use Rattle.dk_picture.specs.declared.windows.Window.{Window}
use Rattle.dk_picture.specs.Elements.{rect, words_at}
use Rattle.dk_picture.specs.Frames.{top_of}
use Rattle.dk_picture.specs.Labels.{room_in}
use Rattle.dk_picture.specs.Makings.{has_made}
use Rattle.dk_picture.specs.Places.{has_pixels, place_of}
use Rattle.dk_picture.specs.PromiseMarks.{promise_marks}
use Rattle.dk_picture.specs.Rows.{is_seen, level_of, row_at}
use Rattle.dk_picture.specs.Scenes.{Scene}
use Rattle.dk_picture.specs.Terms.{budget_of, period_of}
pub use Rattle.dk_picture.specs.Waits.{main_of}
use Rattle.dk_picture.specs.Waits.{waits_text}
use Rattle.dk_picture.specs.Windows.{windows_in}

-- the ticks of a group in the window from tick `first` up to before tick `end`
abbrev pub ticks_within : ℕ → ℕ → LedgerLine → ℕ
ticks_within first end g = min (g.start + g.count) end - max g.start first

-- the ticks of the group in the window that the thread's budget paid for
abbrev pub used_weight : ThreadId → ℕ → ℕ → LedgerLine → ℕ
used_weight x first end g = if is_budget_of x (quiet g.label) then ticks_within first end g else 0

-- the ticks of its budget that the thread used in the window
abbrev pub used_in : List LedgerLine → ThreadId → ℕ → ℕ → ℕ
used_in gs x first end = sum_by (used_weight x first end) gs

-- the tick behind the group's last one in the window that the thread's budget paid for
abbrev pub done_weight : ThreadId → ℕ → ℕ → LedgerLine → ℕ
done_weight x first end g = if nat_lt 0 (used_weight x first end g) then min (g.start + g.count) end else 0

-- the tick behind the last one in the window that the thread's budget paid for, or 0
abbrev pub done_by : List LedgerLine → ThreadId → ℕ → ℕ → ℕ
done_by [] x first end = 0
done_by (g ∷ gs) x first end = max (done_weight x first end g) (done_by gs x first end)

-- the call that ends a job, or an event that ends the thread
abbrev pub is_last : Event → Bool
is_last event = is_wait event || is_end event

-- whether the thread's group ends with such an event, in the window
abbrev pub is_done_in : ThreadId → ℕ → ℕ → LedgerLine → Bool
is_done_in x first end g =
    (option_map_or (is_same x) (thread_of g.label) false && option_map_or is_last g.event false)
    && (nat_lt first (g.start + g.count) && nat_le (g.start + g.count) end)

-- The thread overran the window: it had ticks of its budget in it, and neither waited nor was stopped.
abbrev pub overran_in : List LedgerLine → ThreadId → ℕ → ℕ → Bool
overran_in gs x first end = nat_lt 0 (used_in gs x first end) && not (list_any (is_done_in x first end) gs)

-- what the main of process p used in the window
abbrev pub share_in : Heading → Scene → ℕ → Window → Share
share_in h c p w = record {
  process = p;
  row = row_at c.rows (Label.Run (main_of p));
  first = w.first;
  end = w.end;
  used = used_in c.groups (main_of p) w.first w.end;
  done = done_by c.groups (main_of p) w.first w.end;
  overran = overran_in c.groups (main_of p) w.first w.end;
  budget = budget_of h p;
  shared = has_made c.makings (main_of p) w.first;
}

-- whether the window lies in the range
abbrev pub is_whole : Span → Window → Bool
is_whole s w = nat_le s.from w.first && nat_le w.end s.to

abbrev pub share_of : Heading → Span → Scene → ℕ → Window → List Share
share_of h s c p w = if is_whole s w then share_in h c p w ∷ [] else []

-- of the windows with a tick in the range
abbrev pub shares_of : Heading → Span → Scene → ℕ → ℕ → ℕ → List Share
shares_of h s c p j period = flat_map (share_of h s c p) (windows_in s j period)

-- of a main with a tick, whose windows have 26 pixels
abbrev pub shares_of_main : Heading → Span → Scene → ℕ → ℕ → ℕ → List Share
shares_of_main h s c p j period =
    if is_seen c.groups p && nat_lt 0 period && has_pixels s period 26 then shares_of h s c p j period else []

abbrev pub shares_of_process : Heading → Span → Scene → ℕ → List Share
shares_of_process h s c p = shares_of_main h s c p (level_of h p) (period_of h (level_of h p))

-- of all mains, in the header's order
abbrev pub shares : Heading → Span → Scene → List Share
shares h s c = flat_map (shares_of_process h s c) (below (length h.processes))

-- used/budget, where children have no part of the budget
abbrev pub share_words : Share → List ℕ
share_words d = if d.shared then decimal d.used ++ codes "/?" else decimal d.used ++ (codes "/" ++ decimal d.budget)

-- that of a window that was overrun is urgent
abbrev pub share_class : Share → List ℕ
share_class d = if d.overran then codes "u s x" else codes "m s x"

-- the words below the window's end
abbrev pub share_line : Frame → Span → Share → List ℕ → List ℕ
share_line f s d words = if nat_le (length words) (room_in s d.first d.end)
    then words_at (share_class d) (place_of s d.end - 3) (top_of f d.row + 27) words else []

-- below the bars, from the window's begin to the end of the last tick that the budget paid for
abbrev pub done_line : Frame → Span → Share → List ℕ
done_line f s d = if d.used == 0 then []
    else rect (codes "e") (record {
      x = place_of s d.first;
      y = top_of f d.row + 12;
      width = place_of s d.done - place_of s d.first;
      height = 1;
    })

-- the line, where others' holds kept the main waiting, what it used, and what is promised of it
unfoldable pub share_text : Heading → Frame → Span → Scene → Share → List ℕ
share_text h f s c d = done_line f s d
    ++ (waits_text h f s c d ++ (share_line f s d (share_words d) ++ promise_marks h f s c d))

abbrev pub shares_text : Heading → Frame → Span → Scene → List Share → List ℕ
shares_text h f s c ds = flat_map (share_text h f s c) ds

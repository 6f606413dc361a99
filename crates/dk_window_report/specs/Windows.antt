-- What a thread did in the windows of its level that have ended. A past is the list of the entries so far, the newest first.
use Rattle.std.specs.Prelude.{ℕ, suc, ◌+◌, ◌-◌, ◌*◌, ◌/◌, ◌%◌, Bool, false, not, ◌&&◌, ◌||◌, nat_lt, min, if◌then◌else◌, List, [], ◌∷◌, length, map, take, drop, count_by}
use Rattle.std.specs.List.{list_any}
use Rattle.dk_config.specs.Sums.{below, greatest}
use Rattle.dk_trace.specs.declared.ThreadId.{ThreadId}
use Rattle.dk_trace.specs.declared.Entry.{Entry}
use Rattle.dk_trace.specs.Entries.{is_budget_of, does, is_wait, stops}
use Rattle.dk_window_report.specs.declared.row.Did.{Did}
use Rattle.dk_window_report.specs.declared.row.WindowCounts.{WindowCounts}

-- window w of so many ticks each, counted from 0
abbrev pub window_at : ℕ → List Entry → ℕ → List Entry
window_at period past w = take period (drop (length past - (w + 1) * period) past)

-- the windows that have ended, in their order
abbrev pub ended_windows : ℕ → List Entry → List (List Entry)
ended_windows period past = map (window_at period past) (below (length past / period))

-- the entries of the window that hasn't ended
abbrev pub present_window : ℕ → List Entry → List Entry
present_window period past = take (length past % period) past

-- the tick of the window, counted from 1, at which the thread had its last tick of the budget, or 0
abbrev pub done_in : ThreadId → List Entry → ℕ
done_in x [] = 0
done_in x (e ∷ window) = if is_budget_of x e then suc (length window) else done_in x window

-- what the thread did in a window: its ticks on the budget, and whether it waited or was stopped
abbrev pub did_in : ThreadId → List Entry → Did
did_in x window = record {
  used = count_by (is_budget_of x) window;
  done = done_in x window;
  waited = list_any (does is_wait x) window;
  stopped = list_any (stops x) window;
}

-- It overran: it had ticks of its budget, and neither waited nor was stopped.
abbrev pub is_overrun : Did → Bool
is_overrun d = nat_lt 0 d.used && not (d.waited || d.stopped)

abbrev pub unstopped : Did → Did
unstopped d = record d { stopped = false }

-- where the thread was stopped in a window before
abbrev pub once : Bool → Did → Did
once gone d = if gone then unstopped d else d

-- what is told of windows: a thread that was stopped in one isn't stopped again in a later one
abbrev pub stopped_once : List Did → List Did
stopped_once [] = []
stopped_once (d ∷ ds) = d ∷ (if d.stopped then map unstopped ds else stopped_once ds)

-- the windows up to the one in which it was stopped
abbrev pub until_stopped : List Did → List Did
until_stopped [] = []
until_stopped (d ∷ ds) = d ∷ (if d.stopped then [] else until_stopped ds)

-- the least of a number and others
abbrev pub least_from : ℕ → List ℕ → ℕ
least_from m [] = m
least_from m (n ∷ ns) = least_from (min m n) ns

-- the least of the numbers, or 0
abbrev pub least : List ℕ → ℕ
least [] = 0
least (n ∷ ns) = least_from n ns

-- the number of the first that overran, where the first of all has number k, or 0
abbrev pub first_overrun_from : ℕ → List Did → ℕ
first_overrun_from k [] = 0
first_overrun_from k (d ∷ ds) = if is_overrun d then k else first_overrun_from (k + 1) ds

-- the number of the first window that it overran, from 1, or 0
abbrev pub first_overrun : List Did → ℕ
first_overrun ds = first_overrun_from 1 ds

-- The numbers of a thread that did this in its windows. How many they are, which it overran first, what it used and when it
-- was done is told of those up to the one in which it was stopped.
abbrev pub counts_of : List Did → WindowCounts
counts_of ds = record {
  windows = length (until_stopped ds);
  waited = count_by (λ d. d.waited) ds;
  stopped = count_by (λ d. d.stopped) ds;
  overran = count_by is_overrun ds;
  first_overran = first_overrun (until_stopped ds);
  least_used = least (map (λ d. d.used) (until_stopped ds));
  most_used = greatest (map (λ d. d.used) (until_stopped ds));
  first_done = least (map (λ d. d.done) (until_stopped ds));
  last_done = greatest (map (λ d. d.done) (until_stopped ds));
}

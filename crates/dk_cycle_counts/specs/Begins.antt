-- When in its windows a main begins. Entries are a list, the newest first.
use Rattle.std.specs.Prelude.{ℕ, zero, suc, ◌+◌, ◌%◌, ◌==◌, ◌&&◌, min, max, if◌then◌else◌, List, [], ◌∷◌, ◌++◌, length, map}
use Rattle.dk_config.specs.Sums.{greatest}
use Rattle.dk_trace.specs.declared.ThreadId.{ThreadId}
use Rattle.dk_trace.specs.declared.Label.{Label}
use Rattle.dk_trace.specs.declared.Entry.{Entry}
use Rattle.dk_trace.specs.Entries.{is_budget_of, quiet}
use Rattle.dk_window_report.specs.declared.row.Row.{Row}
use Rattle.dk_window_report.specs.Passing.{gone_by}
use Rattle.dk_window_report.specs.Rows.{raised}
use Rattle.dk_window_report.specs.Windows.{ended_windows, present_window}
use Rattle.dk_cycle_counts.specs.declared.begins.BeginTicks.{BeginTicks}

-- the tick of the window, counted from 1, at which the thread had its first tick of the budget, or 0
abbrev pub begun_in : ThreadId → List Entry → ℕ
begun_in x [] = 0
begun_in x (e ∷ window) = if begun_in x window == 0 then (if is_budget_of x e then suc (length window) else 0) else begun_in x window

-- the windows that have ended, and the present one
abbrev pub begun_windows : ℕ → List Entry → List (List Entry)
begun_windows period es = ended_windows period es ++ present_window period es ∷ []

-- the lesser of two, where 0 is none
abbrev pub earlier : ℕ → ℕ → ℕ
earlier m n = if n == 0 then m else if m == 0 then n else min m n

abbrev pub earliest_from : ℕ → List ℕ → ℕ
earliest_from m [] = m
earliest_from m (n ∷ ns) = earliest_from (earlier m n) ns

-- the least of the numbers that aren't 0, or 0
abbrev pub earliest : List ℕ → ℕ
earliest ns = earliest_from 0 ns

-- the earliest and the latest tick of a window at which the thread begins
abbrev pub begins_of : ThreadId → ℕ → List Entry → BeginTicks
begins_of x period es = record {
  first = earliest (map (begun_in x) (begun_windows period es));
  last = greatest (map (begun_in x) (begun_windows period es));
}

-- with one more window, in which it begins at this tick
abbrev pub begun_at : ℕ → BeginTicks → BeginTicks
begun_at n b = record { first = earlier b.first n; last = max b.last n }

-- with the entry of one more tick, behind so many, where this is kept of the thread
abbrev pub begins_with : ℕ → Entry → Row → BeginTicks → BeginTicks
begins_with ticks e r b = if is_budget_of r.thread e && (r.did.used == 0) then begun_at (raised (ticks % r.period)) b else b

-- with so many ticks more, behind so many, that all have the label and no event
abbrev pub begins_gone_by : ℕ → Label → ℕ → Row → BeginTicks → BeginTicks
begins_gone_by ticks label zero r b = b
begins_gone_by ticks label (suc n) r b = begins_with (ticks + n) (quiet label) (gone_by (quiet label) ticks n r) (begins_gone_by ticks label n r b)

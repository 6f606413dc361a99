-- The windows that the threads of a ledger overran, each with the thread's last tick of its budget in it. Entries stand in the
-- order of the ledger.
use Rattle.std.specs.Prelude.{ℕ, ◌+◌, ◌-◌, List, drop, flat_map, map, reverse, take}
use Rattle.dk_trace.specs.declared.ThreadId.{ThreadId}
use Rattle.dk_trace.specs.declared.Entry.{Entry}
use Rattle.dk_ledger.specs.Heading.{Heading}
use Rattle.dk_window_report.specs.declared.row.Row.{Row}
use Rattle.dk_window_report.specs.Owners.{Owner, owners}
use Rattle.dk_window_report.specs.Windows.{done_in}
use Rattle.dk_overrun_spans.specs.Found.{found_of, overran_at, owner_of}
use Rattle.dk_overrun_spans.specs.declared.overrun.Overrun.{Overrun}

-- The thread's last tick of its budget in the window of so many ticks that begins with tick s, or s where it had none.
abbrev pub last_in : ThreadId → ℕ → ℕ → List Entry → ℕ
last_in x s ticks es = s + (done_in x (reverse (take ticks (drop s es))) - 1)

-- the window of the thread that begins with tick s
abbrev pub overrun_from : Owner → List Entry → ℕ → Overrun
overrun_from o es s = record { thread = o.id; period = o.period; start = s; last = last_in o.id s o.period es }

-- each that the thread overran, in their order
abbrev pub overruns_of : List Entry → Owner → List Overrun
overruns_of es o = map (overrun_from o es) (overran_at o (reverse es))

-- the threads as they are reported, each with its windows
abbrev pub overruns : Heading → List Entry → List Overrun
overruns h es = flat_map (overruns_of es) (owners h (reverse es))

-- of a row that is reported
abbrev pub row_overruns : List Entry → Row → List Overrun
row_overruns es r = map (overrun_from (owner_of r) es) (found_of es r)

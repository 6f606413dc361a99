-- What entries without an event make of a row, many at once.
use Rattle.std.specs.Prelude.{ℕ, zero, suc, ◌≡◌, ◌<◌, ◌+◌, ◌++◌, min, List, length, replicate}
use Rattle.dk_trace.specs.declared.Label.{Label}
use Rattle.dk_trace.specs.declared.Entry.{Entry}
use Rattle.dk_trace.specs.Entries.{quiet}
use Rattle.dk_window_report.specs.declared.row.Did.{Did}
use Rattle.dk_window_report.specs.declared.row.Row.{Row}
use Rattle.dk_window_report.specs.Owners.{Owner}
use Rattle.dk_window_report.specs.Rows.{row_of, stepped}

-- the row after so many entries like this one from the tick on
abbrev pub gone_by : Entry → ℕ → ℕ → Row → Row
gone_by e tick zero r = r
gone_by e tick (suc n) r = stepped (tick + n) e (gone_by e tick n r)

-- what the thread did in a window, of which so many ticks came before, with so many ticks of its budget more
abbrev pub worked : ℕ → ℕ → Did → Did
worked ticks zero d = d
worked ticks (suc n) d = record d { used = min (d.used + suc n) 4294967295; done = min (ticks + suc n) 4294967295 }

-- what is kept of a thread behind so many entries of one label more, in which nothing happens
abbrev pub RowsGoBy : Type 0
RowsGoBy =
    (o : Owner) (label : Label) (n : ℕ) (past : List Entry) → length past + n < 4294967295
    → row_of (replicate n (quiet label) ++ past) o ≡ gone_by (quiet label) (length past) n (row_of past o)

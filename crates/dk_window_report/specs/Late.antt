-- Rows that are kept as they were when something last happened to their threads.
use Rattle.std.specs.Prelude.{ℕ, zero, suc, ◌≤◌, ◌+◌, ◌-◌, ◌/◌, nat_lt, min, if◌then◌else◌, Bool, List, [], ◌∷◌, map}
use Rattle.dk_trace.specs.declared.Label.{Label}
use Rattle.dk_trace.specs.declared.Entry.{Entry}
use Rattle.dk_trace.specs.Entries.{quiet}
use Rattle.dk_window_report.specs.declared.row.WindowCounts.{WindowCounts}
use Rattle.dk_window_report.specs.declared.row.Row.{Row}
use Rattle.dk_window_report.specs.declared.late.Late.{Late}
use Rattle.dk_window_report.specs.Rows.{ended, stepped}
use Rattle.dk_window_report.specs.Passing.{gone_by}

-- an entry of nobody
abbrev pub nobody : Entry
nobody = quiet Label.Idle

-- the row after so many entries of nobody from the tick on
abbrev pub passed : ℕ → ℕ → Row → Row
passed tick n r = gone_by nobody tick n r

-- the row before tick now, where nothing happened to its thread meanwhile
abbrev pub row_at : ℕ → Late → Row
row_at now l = passed l.tick (now - l.tick) l.row

abbrev pub rows_at : ℕ → List Late → List Row
rows_at now ls = map (row_at now) ls

-- the row with the entry of tick now, unless it has it
abbrev pub late_with : ℕ → Entry → Late → Late
late_with now e l = if nat_lt now l.tick then l else record { row = stepped now e (row_at now l); tick = now + 1 }

-- none is of a later tick
abbrev pub AreUpTo : ℕ → List Late → Type 0
AreUpTo now [] = Unit {0}
AreUpTo now (l ∷ ls) = (l.tick ≤ now) × AreUpTo now ls

-- how many windows of the row have ended before the tick
abbrev pub windows_before : Row → ℕ → ℕ
windows_before r tick = (tick - r.since) / r.period

-- the numbers with so many windows more in which the thread did nothing
abbrev pub idled : Bool → ℕ → WindowCounts → WindowCounts
idled gone zero c = c
idled gone (suc n) c =
    if gone then c else record c { windows = min (c.windows + suc n) 4294967295; least_used = 0; first_done = 0 }

-- the row once so many windows have ended, its present one first, in which nothing more happens
abbrev pub after : ℕ → Row → Row
after zero r = r
after (suc n) r = record (ended r r.did) { counts = idled (ended r r.did).gone n (ended r r.did).counts }

-- Entries of one label, one after the other.
use Rattle.std.specs.Prelude.{ℕ, ◌+◌, ◌-◌, ◌++◌, ◌∷◌, [], List, Option, replicate}
use Rattle.dk_trace.specs.declared.Event.{Event}
use Rattle.dk_trace.specs.declared.Entry.{Entry}
use Rattle.dk_trace.specs.Entries.{quiet}
use Rattle.dk_ledger.specs.declared.line.LedgerLine.{LedgerLine}
use Rattle.dk_ledger.specs.Ledgers.{last_after}

-- so many entries of the label of this one, which is the last of them and alone may have an event
abbrev pub stretch_of : ℕ → Entry → List Entry
stretch_of n e = replicate (n - 1) (quiet e.label) ++ e ∷ []

-- the line with so many entries more, the last of them with this event
abbrev pub lengthened : LedgerLine → ℕ → Option Event → LedgerLine
lengthened l more event = record l { count = l.count + more; event = event }

-- the last line after so many entries of one label, of which there were n before
abbrev pub last_after_stretch : Option LedgerLine → ℕ → ℕ → Entry → LedgerLine
last_after_stretch o n count e = lengthened (last_after o n (quiet e.label)) (count - 1) e.event

-- What is counted of a ledger, line by line.
use Rattle.std.specs.Prelude.{ℕ, List}
use Rattle.dk_trace.specs.declared.Entry.{Entry}
use Rattle.dk_ledger.specs.Heading.{Heading}
use Rattle.dk_ledger.specs.ReadSoFar.{HasReadAll}
use Rattle.dk_report.specs.Counts.{Numbers, StandsFor}

-- the numbers are those of the ledger in these bytes, which has this header
abbrev pub HasCounted : List ℕ → Heading → Numbers → Type 0
HasCounted bytes h numbers = (es : List Entry) × HasReadAll bytes es h × StandsFor numbers es

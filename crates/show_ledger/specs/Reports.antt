-- The report of a ledger.
use Rattle.std.specs.Prelude.{ℕ, ◌≡◌, ◌++◌, List, length}
use Rattle.dk_trace.specs.declared.Entry.{Entry}
use Rattle.dk_ledger.specs.Heading.{Heading, IsPrintable, header_text}
use Rattle.dk_ledger.specs.ReadSoFar.{HasReadAll}
use Rattle.dk_ledger.specs.Readable.{Journal, IsReadable, text_of}
use Rattle.dk_report.specs.Counts.{Numbers, StandsFor}
use Rattle.dk_report.specs.Report.{report_text}
use Rattle.show_ledger.specs.declared.counting.Counted.{Counted}

-- the numbers are those of the ledger in these bytes, which has this header
abbrev pub HasCounted : List ℕ → Heading → Numbers → Type 0
HasCounted bytes h numbers = (es : List Entry) × HasReadAll bytes es h × StandsFor numbers es

pub record IsCounted (bytes : List ℕ) (c : Counted) : Type 0 where
  pub counted : HasCounted bytes c.header c.totals
  pub printable : IsPrintable c.header
  pub levels : length c.header.levels ≡ length c.totals.levels
  pub processes : length c.header.processes ≡ length c.totals.processes

-- what `deosk ledger --report` writes of the ledger
abbrev pub report_of : Journal → List ℕ
report_of j = header_text j.heading ++ report_text j.heading j.entries

-- this is the report of the ledger in these bytes, and these are its totals
abbrev pub IsReport : List ℕ → List ℕ → List ℕ → Type 0
IsReport bytes report totals = (j : Journal) × IsReadable j × (text_of j ≡ bytes) × (report ≡ report_of j)
    × (totals ≡ report_text j.heading j.entries)

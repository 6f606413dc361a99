-- What is written and counted of a run as its entries come.
use Rattle.std.specs.Prelude.{◌≡◌, List, length, reverse, IfSome, Result, Ok, OnOk}
use Rattle.std.specs.declared.convert.Infallible.{Infallible}
use Rattle.dk_outside.specs.Views.{SinkView}
use Rattle.dk_outside.specs.Written.{Writes}
use Rattle.dk_outside.specs.declared.sink.SinkError.{SinkError}
use Rattle.dk_trace.specs.declared.Entry.{Entry}
use Rattle.dk_trace.specs.Ranges.{Size}
use Rattle.dk_ledger.specs.Heading.{Heading, IsPrintable}
use Rattle.dk_ledger.specs.LineText.{IsNamed}
use Rattle.dk_ledger.specs.Ledgers.{Drafted, IsAfter, IsDraftOf, closed_text}
use Rattle.dk_report.specs.Counts.{Numbers, StandsFor}

-- what the writing of a ledger begins with
pub record Begun : Type 0 where
  pub size : Size
  pub header : Heading
  pub sink : SinkView

-- Under this header the lines are written that these entries close, the newest entry first, and the writer is after them; or
-- that failed.
pub record HasWritten (start : Begun) (header : Heading) (sink : SinkView) (writer : Drafted)
    (result : Result (Unit {0}) SinkError) (past : List Entry) : Type 0 where
  pub same : header ≡ start.header
  pub printable : IsPrintable header
  pub processes : length header.processes ≡ start.size.processes
  pub draft : IsDraftOf header writer
  pub named : OnOk result (IfSome writer.progress.last (λ line. IsNamed header line.label))
  pub after : OnOk result (IsAfter (reverse past) writer.progress)
  pub wrote : Writes start.sink sink result (closed_text header (reverse past))

-- the totals, for so many levels and processes, stand for these entries
pub record HasCountedRun (size : Size) (totals : Numbers) (result : Result (Unit {0}) Infallible) (past : List Entry) : Type 0 where
  pub ok : result ≡ Ok tt
  pub levels : length totals.levels ≡ size.levels
  pub processes : length totals.processes ≡ size.processes
  pub stands : StandsFor totals (reverse past)

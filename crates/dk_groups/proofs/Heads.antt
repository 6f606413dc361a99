-- A reader that has gone to the first line of entries, or to the end, knows the header.
use Rattle.std.proofs.Common.{◌≡◌, [], ap, arith}
use Rattle.std.specs.Prelude.{Option, Some, None}
use Rattle.dk_ledger.specs.declared.line.LedgerLine.{LedgerLine}
use Rattle.dk_ledger.specs.Cuts.{entries_of}
use Rattle.dk_ledger.specs.Readable.{Journal, IsReadable, text_of}
use Rattle.dk_ledger.specs.ReadSoFar.{ComesNext, Reading}
use Rattle.dk_ledger.proofs.EntryLists.{length-entries}
use Rattle.dk_ledger.proofs.Readings.{one_text, read_in_order}

pub heading_known : (j : Journal) (next : Option LedgerLine) (r : Reading) → IsReadable j → ComesNext (text_of j) [] next r → r.kept.heading ≡ j.heading
heading_known j None r readable all =
    ap (λ (k : Journal). k.heading) (one_text (record { heading = r.kept.heading; entries = [] }) j all.readable readable all.text)
heading_known j (Some line) r readable next =
    let some = next.count in
    let count = length-entries line some in
    (read_in_order j (entries_of line) r readable next.read).heading (omega (arith, some, count))

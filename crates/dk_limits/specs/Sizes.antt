-- How long a ledger that can be read may be.
use Rattle.std.specs.Prelude.{◌≤◌, length}
use Rattle.std.specs.List.{AllByRecursion}
use Rattle.dk_config.specs.declared.TheConstants.{MAX_LEDGER_BYTES}
use Rattle.dk_ledger.specs.Lines.{lines_of}
use Rattle.dk_ledger.specs.LineText.{ledger_line}
use Rattle.dk_ledger.specs.Readable.{Journal, IsReadable, text_of}

-- no line of its entries is longer than 100 bytes, the line feed among them
abbrev pub LinesAreShort : Type 0
LinesAreShort = (j : Journal) → IsReadable j
    → AllByRecursion (λ l. length (ledger_line j.heading l) ≤ 100) (lines_of j.entries)

-- its text isn't longer than a ledger that is read may be
abbrev pub TextsFit : Type 0
TextsFit = (j : Journal) → IsReadable j → length (text_of j) ≤ MAX_LEDGER_BYTES

-- The lines of a ledger come one after another.
use Rattle.std.proofs.Common.{ℕ, ◌≡◌, ◌-◌, ◌<◌, ◌++◌, [], ◌∷◌, List, length, arith, length-append}
use Rattle.std.specs.Prelude.{Option, Some, None, IfSome, replicate}
use Rattle.dk_trace.specs.declared.Entry.{Entry}
use Rattle.dk_ledger.specs.declared.line.LedgerLine.{LedgerLine}
use Rattle.dk_ledger.specs.Cuts.{entries_of}
use Rattle.dk_ledger.specs.ReadSoFar.{Reading, HasRead, HasReadAll, IsGiven}
use Rattle.dk_window_report.specs.Report.{ComesNext}

-- what a reader that has read these entries gives
pub comes_next : (bytes : List ℕ) (es : List Entry) (o : Option LedgerLine) (old new : Reading) → HasRead bytes es old
    → IfSome o (λ line. (bytes : List ℕ) (es : List Entry) → HasRead bytes es old → HasRead bytes (es ++ entries_of line) new)
    → IfSome o (IsGiven old new)
    → (o ≡ None → (bytes : List ℕ) (es : List Entry) → HasRead bytes es old → HasReadAll bytes es new.kept.heading)
    → ComesNext bytes es o new
comes_next bytes es None old new read given fits end = end (λ i. None) bytes es read
comes_next bytes es (Some line) old new read given fits end =
    let start = fits.start in
    let short = fits.short in
    let ticks = read.ticks in
    (given bytes es read, fits.count, omega (arith, start, short, ticks))

-- a line has entries
pub some_entries : (es : List Entry) (line : LedgerLine) → 0 < length (es ++ entries_of line)
some_entries es line =
    let all = length-append es (entries_of line) in
    let own = length-append {A = Entry} (replicate (line.count - 1) (record { label = line.label; event = None })) (record { label = line.label; event = line.event } ∷ []) in
    omega (arith, all, own)

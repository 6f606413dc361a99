-- What has been read of a ledger, and what is kept of it.
use Rattle.std.specs.Prelude.{ℕ, ◌<◌, ◌≤◌, ◌+◌, ◌++◌, ◌&&◌, ◌==◌, Bool, not, List, length, sum_by, min, reverse, Option, Some, None}
use Rattle.dk_config.specs.declared.TheConstants.{MAX_RUN_TICKS}
use Rattle.dk_trace.specs.declared.Entry.{Entry}
use Rattle.dk_ledger.specs.declared.line.LedgerLine.{LedgerLine}
use Rattle.dk_ledger.specs.Cuts.{entries_of}
use Rattle.dk_ledger.specs.Heading.{Heading}
use Rattle.dk_ledger.specs.ReadSoFar.{Reading, HasRead, HasReadAll}
use Rattle.dk_window_report.specs.declared.row.Row.{Row}
use Rattle.dk_window_report.specs.Rows.{Kept, IsKeptOf}
use Rattle.dk_window_report.specs.Clean.{is_clean_by}

-- The reader has just read this line behind these entries, or there is none, and they are all.
abbrev pub ComesNext : List ℕ → List Entry → Option LedgerLine → Reading → Type 0
ComesNext bytes es None r = HasReadAll bytes es r.kept.heading
ComesNext bytes es (Some line) r =
    HasRead bytes (es ++ entries_of line) r × (0 < line.count) × (length es + line.count ≤ MAX_RUN_TICKS)

-- a header, and what is kept of the entries after it
pub record Reported : Type 0 where
  pub heading : Heading
  pub kept : Kept

-- this is kept of the ledger in these bytes, which has this header
abbrev pub IsKeptIn : List ℕ → Heading → Kept → Type 0
IsKeptIn bytes h k = (es : List Entry) × HasReadAll bytes es h × IsKeptOf h (reverse es) k

abbrev pub overruns_in : List Row → ℕ
overruns_in rows = min (sum_by (λ r. r.counts.overran) rows) 4294967295

abbrev pub is_kept_clean : Kept → Bool
is_kept_clean k = (overruns_in k.rows == 0) && not k.troubled

abbrev pub is_kept_strictly_clean : Bool → Kept → Bool
is_kept_strictly_clean sparing k = is_clean_by sparing k.rows k.accounts k.troubled

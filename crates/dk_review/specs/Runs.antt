-- What the commands tell of a ledger.
use Rattle.std.specs.Prelude.{ℕ, ◌≡◌, ◌<◌, Bool, true, false, List, ◌++◌, length, reverse, codes, decimal, Option, Some, None}
use Rattle.dk_config.specs.Configuration.{Configuration}
use Rattle.dk_audit.specs.declared.finding.Finding.{Finding}
use Rattle.dk_audit.specs.declared.finding.Finding.TheVariants.{Header, Label, Event, Passed}
use Rattle.dk_audit.specs.Lines.{IsFoundIn}
use Rattle.dk_groups.specs.Groups.{groups}
use Rattle.dk_ledger.specs.Readable.{IsNoText, IsWrongLine, Journal, IsReadable, text_of}
use Rattle.dk_page.specs.declared.running.Drawing.{Drawing}
use Rattle.dk_page.specs.declared.running.Drawing.TheVariants.{Drawn, TooMany}
use Rattle.dk_page.specs.declared.running.Run.{Run}
use Rattle.dk_picture.specs.Pictures.{IsTooMany, svg_text}
use Rattle.dk_report.specs.Report.{report_text}
use Rattle.show_ledger.specs.Reports.{report_of}
use Rattle.show_ledger.specs.TenthsTable.{tenths_csv}
use Rattle.show_ledger.specs.Threads.{windows_csv}
use Rattle.dk_review.specs.declared.drawing.Range.{Range}
use Rattle.dk_review.specs.declared.fault.RunFault.{RunFault}
use Rattle.dk_review.specs.declared.fault.RunFault.TheVariants as why

-- what is wrong with a tick
abbrev pub tick_text : ℕ → List ℕ → List ℕ
tick_text tick part = codes "audit: tick " ++ (decimal tick ++ (codes " " ++ (part ++ codes "\n")))

-- what `deosk audit` writes
abbrev pub audit_text : Finding → List ℕ
audit_text Header = codes "audit: header differs\n"
audit_text (Label tick) = tick_text tick (codes "label")
audit_text (Event tick) = tick_text tick (codes "event")
audit_text (Passed n) = codes "audit: passed " ++ (decimal n ++ codes "\n")

abbrev pub has_passed : Finding → Bool
has_passed (Passed n) = true
has_passed Header = false
has_passed (Label tick) = false
has_passed (Event tick) = false

-- the ledger is of another configuration
abbrev pub is_other : Finding → Bool
is_other Header = true
is_other (Label tick) = false
is_other (Event tick) = false
is_other (Passed n) = false

-- this is so of the ledger in these bytes
abbrev pub IsOfLedger : (Journal → Type 0) → List ℕ → Type 0
IsOfLedger Holds bytes = (j : Journal) × IsReadable j × (text_of j ≡ bytes) × Holds j

-- the range that is asked for, and without one all of so many ticks
abbrev pub range_within : Option Range → ℕ → Range
range_within (Some range) ticks = range
range_within None ticks = record { from = 0; to = ticks }

-- the picture of these ticks, or how far one may go
abbrev pub IsDrawingIn : Range → Drawing → Journal → Type 0
IsDrawingIn r (Drawn picture) j = picture.items ≡ svg_text r.from r.to j.heading j.entries
IsDrawingIn r (TooMany tick) j = IsTooMany (groups r.from r.to j.entries) tick

abbrev pub IsDrawingOf : Option Range → Drawing → Journal → Type 0
IsDrawingOf range drawing j = IsDrawingIn (range_within range (length j.entries)) drawing j

-- it has so many ticks, and the range ends behind them
abbrev pub EndsBefore : Option Range → ℕ → Journal → Type 0
EndsBefore range ticks j = (ticks ≡ length j.entries) × (ticks < (range_within range ticks).to)

-- what each thread did in its windows, as a table
abbrev pub AreWindowsOf : List ℕ → Journal → Type 0
AreWindowsOf text j = text ≡ windows_csv j.heading (reverse j.entries)

-- in how many of them each main used how many tenths of its budget, as a table
abbrev pub AreTenthsOf : List ℕ → Journal → Type 0
AreTenthsOf text j = text ≡ tenths_csv j.heading (reverse j.entries)

-- its totals, and its header with them
abbrev pub AreTotalsOf : List ℕ → List ℕ → Journal → Type 0
AreTotalsOf report totals j = (report ≡ report_of j) × (totals ≡ report_text j.heading j.entries)

-- what the commands tell of the ledger in these bytes, of which this was found, with the picture of this range
pub record IsToldBy (finding : Finding) (range : Option Range) (bytes : List ℕ) (run : Run) : Type 0 where
  pub audit : run.audit.items ≡ audit_text finding
  pub passed : run.passed ≡ has_passed finding
  pub drawing : IsOfLedger (IsDrawingOf range run.drawing) bytes
  pub windows : IsOfLedger (AreWindowsOf run.windows.items) bytes
  pub tenths : IsOfLedger (AreTenthsOf run.tenths.items) bytes
  pub totals : IsOfLedger (AreTotalsOf run.report.items run.totals.items) bytes

-- of the ledger in these bytes, which is one of this configuration
pub record IsRunOf (c : Configuration) (range : Option Range) (bytes : List ℕ) (run : Run) : Type 0 where
  pub finding : Finding
  pub found : IsFoundIn c bytes finding
  pub own : is_other finding ≡ false
  pub told : IsToldBy finding range bytes run

-- why nothing is told of the ledger in these bytes, where this is so of one of another configuration
abbrev pub IsFaultOf : Type 0 → Option Range → List ℕ → RunFault → Type 0
IsFaultOf IsOther range bytes (why.Line n) = IsWrongLine n bytes × IsNoText bytes
IsFaultOf IsOther range bytes (why.Ends ticks) = IsOfLedger (EndsBefore range ticks) bytes
IsFaultOf IsOther range bytes why.Other = IsOther
IsFaultOf IsOther range bytes why.NoMemory = Unit {0}

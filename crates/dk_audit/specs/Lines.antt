-- The audit of a ledger that is read line by line.
use Rattle.std.specs.Prelude.{ℕ, ◌≡◌, ◌<◌, ◌≤◌, ◌+◌, ◌++◌, List, length, Option, Some, None}
use Rattle.dk_config.specs.Configuration.{Configuration}
use Rattle.dk_config.specs.declared.TheConstants.{MAX_RUN_TICKS}
use Rattle.dk_trace.specs.declared.Entry.{Entry}
use Rattle.dk_ledger.specs.declared.line.LedgerLine.{LedgerLine}
use Rattle.dk_ledger.specs.Cuts.{entries_of}
use Rattle.dk_ledger.specs.Readable.{Journal, IsReadable, text_of}
use Rattle.dk_dispatch.specs.Standing.{Dispatched}
use Rattle.dk_audit.specs.Booking.{IsAfter}
use Rattle.dk_audit.specs.declared.finding.Finding.{Finding}
use Rattle.dk_audit.specs.declared.finding.Finding.TheVariants.{Label, Event, Passed}
use Rattle.dk_audit.specs.Findings.{BreaksLabel, BreaksEvent, IsFinding, IsOwnHeading, IfPassed, whole_past}

-- what is found of the entries so far, or the dispatcher before the next tick
abbrev pub FollowsSoFar : Configuration → List Entry → Option Finding → Dispatched → Type 0
FollowsSoFar c es None d = IsAfter c (whole_past es) d
FollowsSoFar c es (Some (Label n)) d = BreaksLabel c es n
FollowsSoFar c es (Some (Event n)) d = BreaksEvent c es n
FollowsSoFar c es (Some _) d = ⊥

-- there are entries before the line, after which the dispatcher is
pub record HasRoomForLine (line : LedgerLine) (d : Dispatched) : Type 0 where
  pub config : Configuration
  pub entries : List Entry
  pub stands : IsAfter config (whole_past entries) d
  pub start : line.start ≡ length entries
  pub count : 0 < line.count
  pub short : line.start + line.count ≤ MAX_RUN_TICKS

-- after all entries before the line, and its own, this is found
abbrev pub FollowsLine : LedgerLine → Dispatched → Option Finding → Dispatched → Type 0
FollowsLine line old found new =
    (c : Configuration) (es : List Entry) → line.start ≡ length es → IsAfter c (whole_past es) old
    → FollowsSoFar c (es ++ entries_of line) found new

-- what is found of the header and the entries so far
abbrev pub IsFoundSoFar : Configuration → Journal → Option Finding → Dispatched → Type 0
IsFoundSoFar c j None d = IsOwnHeading c j.heading × IsAfter c (whole_past j.entries) d
IsFoundSoFar c j (Some (Passed n)) d = ⊥
IsFoundSoFar c j (Some found) d = IsFinding c j found

-- an audit of the ledger in these bytes finds this
abbrev pub IsFoundIn : Configuration → List ℕ → Finding → Type 0
IsFoundIn c bytes finding = (j : Journal) × IsReadable j × (text_of j ≡ bytes) × IsFinding c j finding

-- a law of the past of all entries of the ledger in these bytes, where they passed
abbrev pub IfPassedIn : Finding → (List Entry → Type 0) → List ℕ → Type 0
IfPassedIn finding Holds bytes = (j : Journal) → IsReadable j → text_of j ≡ bytes → IfPassed finding Holds j

-- where nothing was found before, the line can be judged
abbrev pub CanGoFurther : LedgerLine → Option Finding → Dispatched → Type 0
CanGoFurther line None d = HasRoomForLine line d
CanGoFurther line (Some found) d = Unit {0}

-- what was found stays, and else the line is judged
abbrev pub GoesFurther : LedgerLine → Option Finding → Dispatched → Option Finding → Dispatched → Type 0
GoesFurther line None old found new = FollowsLine line old found new
GoesFurther line (Some finding) old found new = found ≡ Some finding

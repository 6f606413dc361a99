-- What a line adds to a trace, by the lines before it.
use Rattle.std.specs.Prelude.{ℕ, ◌≡◌, ◌++◌, [], List, flat_map, reverse, Option}
use Rattle.std.specs.List.{AllByRecursion}
use Rattle.dk_trace.specs.declared.Entry.{Entry}
use Rattle.dk_ledger.specs.declared.line.LedgerLine.{LedgerLine}
use Rattle.dk_ledger.specs.Cuts.{entries_of}
use Rattle.dk_ledger.specs.Heading.{Heading}
use Rattle.dk_ledger.specs.LineText.{IsNamed}
use Rattle.dk_ledger.specs.Readable.{Journal, IsReadable}
use Rattle.dk_groups.specs.Cutting.{Cutting, ComesNext}
use Rattle.dk_holds.specs.declared.holding.Holding.{Holding}
use Rattle.dk_holds.specs.Holds.{AreHolders}
use Rattle.dk_trace_events.specs.Texts.{texts_behind}
use Rattle.dk_trace_events.specs.HoldSlices.{ended_holds}
use Rattle.dk_trace_events.specs.Names.{made_name}

-- the entries of these lines, the newest first
abbrev pub past_of : List LedgerLine → List Entry
past_of ls = reverse (flat_map entries_of ls)

-- the name of the child that the line makes, and the holds that it ends
abbrev pub line_text : Heading → ℕ → List LedgerLine → LedgerLine → List ℕ
line_text h from before l = made_name h l ++ ended_holds h from (past_of before) l

abbrev pub lines_text : Heading → ℕ → List LedgerLine → List ℕ
lines_text h from ls = texts_behind (line_text h from) [] ls

-- These are the holders behind a past of entries of this header.
abbrev pub AreKnown : Heading → List (Option Holding) → Type 0
AreKnown h rows = (past : List Entry) × AreHolders past rows × AllByRecursion (λ e. IsNamed h e.label) past

-- The line is the first of some ledger in a reader's range, or there is none.
abbrev pub IsStarting : Option LedgerLine → Cutting → Type 0
IsStarting first c = (j : Journal) × IsReadable j × ComesNext j [] first c

-- and of a ledger of this header
abbrev pub StandsFirst : Heading → Option LedgerLine → Cutting → Type 0
StandsFirst h first c = (j : Journal) × IsReadable j × (j.heading ≡ h) × ComesNext j [] first c

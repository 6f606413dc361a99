-- How far a reader of groups is.
use Rattle.std.specs.Prelude.{ℕ, ◌≡◌, ◌<◌, ◌≤◌, ◌+◌, ◌++◌, ◌∷◌, [], List, Option, Some, None, option_to_list}
use Rattle.dk_config.specs.declared.TheConstants.{MAX_RUN_TICKS}
use Rattle.dk_trace.specs.declared.Entry.{Entry}
use Rattle.dk_trace.specs.Ranges.{HasLabel, HasOwnEvent}
use Rattle.dk_ledger.specs.declared.line.LedgerLine.{LedgerLine}
use Rattle.dk_ledger.specs.Heading.{Heading}
use Rattle.dk_ledger.specs.Readable.{Journal, IsReadable, size_in, text_of}
use Rattle.dk_ledger.specs.ReadSoFar.{Reading, HasRead, IsGiven}
use Rattle.dk_groups.specs.Groups.{groups, part_of_line}

-- a reader of the ledger, and its range
pub record Cutting : Type 0 where
  pub reading : Reading
  pub from : ℕ
  pub to : ℕ

-- These are the groups of what has been read of the ledger.
pub record HasGiven (j : Journal) (gs : List LedgerLine) (c : Cutting) : Type 0 where
  pub entries : List Entry
  pub read : HasRead (text_of j) entries c.reading
  pub given : gs ≡ groups c.from c.to entries

-- some ledger that can be read is being cut
abbrev pub IsCutting : Cutting → Type 0
IsCutting c = (j : Journal) × IsReadable j × (gs : List LedgerLine) × HasGiven j gs c

-- a part of a line of a ledger of this header
pub record IsGroupIn (h : Heading) (from to : ℕ) (g : LedgerLine) : Type 0 where
  pub some : 0 < g.count
  pub begins : from ≤ g.start
  pub ends : g.start + g.count ≤ to
  pub short : g.start + g.count ≤ MAX_RUN_TICKS
  pub label : HasLabel (size_in h) g.label
  pub event : HasOwnEvent (size_in h) g.label g.event

-- the line has been read, and its part in the range is one more of the groups
pub record HasPassed (j : Journal) (gs : List LedgerLine) (old new : Cutting) (line : LedgerLine) : Type 0 where
  pub given : HasGiven j (gs ++ option_to_list (part_of_line old.from old.to line)) new
  pub heading : new.reading.kept.heading ≡ j.heading

-- the line is the next one of a ledger
abbrev pub IsPassed : Cutting → Cutting → LedgerLine → Type 0
IsPassed old new line = IsGiven old.reading new.reading line

-- This is the next group behind these, or there is none, and they are all.
abbrev pub ComesNext : Journal → List LedgerLine → Option LedgerLine → Cutting → Type 0
ComesNext j gs None c = gs ≡ groups c.from c.to j.entries
ComesNext j gs (Some g) c =
    HasGiven j (gs ++ g ∷ []) c × (c.reading.kept.heading ≡ j.heading) × IsGroupIn j.heading c.from c.to g

-- the groups of some ledger that can be read are being gone through
abbrev pub IsGoingOn : Option LedgerLine → Cutting → Type 0
IsGoingOn next c = (j : Journal) × IsReadable j × (gs : List LedgerLine) × ComesNext j gs next c

-- What has been read of a ledger, and what may come next.
use Rattle.std.specs.Prelude.{ℕ, suc, ◌≡◌, ◌+◌, ◌<◌, ◌≤◌, Bool, true, false, List, [], ◌∷◌, ◌++◌, length, map, flat_map, Option, Some, None, codes, decimal, if◌then◌else◌}
use Rattle.std.specs.List.{AllByRecursion}
use Rattle.std.specs.Str.{bytes_eq}
use Rattle.dk_certify.specs.declared.table.TableRow.{TableRow}
use Rattle.dk_trace.specs.declared.Entry.{Entry}
use Rattle.dk_trace.specs.Ranges.{HasLabel, HasOwnEvent, HasEntry}
use Rattle.dk_ledger.specs.declared.header.ProcessLine.{ProcessLine}
use Rattle.dk_ledger.specs.declared.line.LedgerLine.{LedgerLine}
use Rattle.dk_ledger.specs.Heading.{Heading, level_body, process_body, name_of, ended}
use Rattle.dk_ledger.specs.Lines.{joins, lines_of}
use Rattle.dk_ledger.specs.LineText.{line_body}
use Rattle.dk_ledger.specs.Cuts.{entries_of}
use Rattle.dk_ledger.specs.Ledgers.{last_of}
use Rattle.dk_ledger.specs.Readable.{Journal, IsReadable, IsLevelRow, IsProcessLine, HaveOwnNames, size_in, text_of}
use Rattle.dk_config.specs.declared.TheConstants.{MAX_RUN_TICKS, MAX_LEVELS, MAX_PROCESSES}

-- what has been read: the lines of a header, the entries, the last line of entries, and whether the end's line has come
pub record Part : Type 0 where
  pub heading : Heading
  pub entries : List Entry
  pub last : Option LedgerLine
  pub ended : Bool

-- What a reader keeps of it: of the entries, how many they were.
pub record Kept : Type 0 where
  pub heading : Heading
  pub ticks : ℕ
  pub last : Option LedgerLine
  pub ended : Bool

abbrev pub kept : Part → Kept
kept p = record { heading = p.heading; ticks = length p.entries; last = p.last; ended = p.ended }

pub data Item : Type 0 where
  Level : (row : TableRow) → Item
  Process : (line : ProcessLine) → Item
  Ticks : (line : LedgerLine) → Item
  End : Item

abbrev pub end_body : ℕ → List ℕ
end_body n = codes "end " ++ decimal n

-- the line of the item, after what has been read
abbrev pub item_body : Kept → Item → List ℕ
item_body k (Item.Level row) = level_body (length k.heading.levels) row
item_body k (Item.Process line) = process_body line
item_body k (Item.Ticks line) = line_body k.heading line
item_body k Item.End = end_body k.ticks

-- the line can't be joined to the one before
abbrev pub IsApart : Option LedgerLine → LedgerLine → Type 0
IsApart None l = Unit {0}
IsApart (Some before) l = joins before.label before.event l.label ≡ false

pub record LevelFits (k : Kept) (row : TableRow) : Type 0 where
  pub first : k.heading.processes ≡ []
  pub room : length k.heading.levels < MAX_LEVELS
  pub numbers : IsLevelRow row

pub record ProcessFits (k : Kept) (line : ProcessLine) : Type 0 where
  pub first : k.ticks ≡ 0
  pub unfinished : k.ended ≡ false
  pub levels : 1 ≤ length k.heading.levels
  pub room : length k.heading.processes < MAX_PROCESSES
  pub readable : IsProcessLine (length k.heading.levels) line
  pub new : (q : ℕ) → q < length k.heading.processes → bytes_eq (name_of k.heading q) line.name ≡ false

pub record TicksFit (k : Kept) (line : LedgerLine) : Type 0 where
  pub unfinished : k.ended ≡ false
  pub processes : 1 ≤ length k.heading.processes
  pub start : line.start ≡ k.ticks
  pub count : 0 < line.count
  pub short : line.start + line.count ≤ MAX_RUN_TICKS
  pub label : HasLabel (size_in k.heading) line.label
  pub event : HasOwnEvent (size_in k.heading) line.label line.event
  pub apart : IsApart k.last line

pub record EndFits (k : Kept) : Type 0 where
  pub unfinished : k.ended ≡ false
  pub processes : 1 ≤ length k.heading.processes

-- the item may come next
abbrev pub Fits : Kept → Item → Type 0
Fits k (Item.Level row) = LevelFits k row
Fits k (Item.Process line) = ProcessFits k line
Fits k (Item.Ticks line) = TicksFit k line
Fits k Item.End = EndFits k

abbrev pub with_level : Heading → TableRow → Heading
with_level h row = record { levels = h.levels ++ row ∷ []; processes = h.processes }

abbrev pub with_process : Heading → ProcessLine → Heading
with_process h line = record { levels = h.levels; processes = h.processes ++ line ∷ [] }

abbrev pub with_item : Part → Item → Part
with_item p (Item.Level row) =
    record { heading = with_level p.heading row; entries = p.entries; last = p.last; ended = p.ended }
with_item p (Item.Process line) =
    record { heading = with_process p.heading line; entries = p.entries; last = p.last; ended = p.ended }
with_item p (Item.Ticks line) =
    record { heading = p.heading; entries = p.entries ++ entries_of line; last = Some line; ended = p.ended }
with_item p Item.End = record { heading = p.heading; entries = p.entries; last = p.last; ended = true }

abbrev pub keeping : Kept → Item → Kept
keeping k (Item.Level row) =
    record { heading = with_level k.heading row; ticks = k.ticks; last = k.last; ended = k.ended }
keeping k (Item.Process line) =
    record { heading = with_process k.heading line; ticks = k.ticks; last = k.last; ended = k.ended }
keeping k (Item.Ticks line) =
    record { heading = k.heading; ticks = k.ticks + line.count; last = Some line; ended = k.ended }
keeping k Item.End = record { heading = k.heading; ticks = k.ticks; last = k.last; ended = true }

-- the item's line is this text, the item may come next, and new is kept of what has been read with it
pub record Takes (old : Kept) (text : List ℕ) (new : Kept) (i : Item) : Type 0 where
  pub body : text ≡ item_body old i
  pub fits : Fits old i
  pub added : new ≡ keeping old i

-- no item that may come next has the line
abbrev pub TakesNone : Kept → List ℕ → Type 0
TakesNone old text = (i : Item) → Fits old i → text ≡ item_body old i → ⊥

-- What may have been read: what is there is as in a ledger that can be read, and nothing comes out of turn.
pub record IsPart (p : Part) : Type 0 where
  pub few_levels : length p.heading.levels ≤ MAX_LEVELS
  pub levels : AllByRecursion IsLevelRow p.heading.levels
  pub few_processes : length p.heading.processes ≤ MAX_PROCESSES
  pub processes : AllByRecursion (IsProcessLine (length p.heading.levels)) p.heading.processes
  pub own_names : HaveOwnNames p.heading
  pub entries : AllByRecursion (HasEntry (size_in p.heading)) p.entries
  pub short : length p.entries ≤ MAX_RUN_TICKS
  pub last : p.last ≡ last_of (lines_of p.entries)
  pub levels_first : p.heading.levels ≡ [] → p.heading.processes ≡ []
  pub processes_first : p.heading.processes ≡ [] → (p.entries ≡ []) × (p.ended ≡ false)

-- What a reader may keep: a header as of a ledger that can be read, and nothing out of turn.
pub record IsKept (k : Kept) : Type 0 where
  pub few_levels : length k.heading.levels ≤ MAX_LEVELS
  pub levels : AllByRecursion IsLevelRow k.heading.levels
  pub few_processes : length k.heading.processes ≤ MAX_PROCESSES
  pub processes : AllByRecursion (IsProcessLine (length k.heading.levels)) k.heading.processes
  pub own_names : HaveOwnNames k.heading
  pub short : k.ticks ≤ MAX_RUN_TICKS

-- the lines that have been read, without their line feeds
abbrev pub level_bodies : ℕ → List TableRow → List (List ℕ)
level_bodies j [] = []
level_bodies j (row ∷ rows) = level_body j row ∷ level_bodies (suc j) rows

abbrev pub end_bodies : Part → List (List ℕ)
end_bodies p = if p.ended then (end_body (length p.entries) ∷ []) else []

abbrev pub bodies_of : Part → List (List ℕ)
bodies_of p =
    level_bodies 0 p.heading.levels
    ++ (map process_body p.heading.processes ++ (map (line_body p.heading) (lines_of p.entries) ++ end_bodies p))

abbrev pub whole : Journal → Part
whole j = record { heading = j.heading; entries = j.entries; last = last_of (lines_of j.entries); ended = true }

-- each with its line feed
abbrev pub fed : List (List ℕ) → List ℕ
fed bodies = flat_map ended bodies

-- How far a reader is: what it keeps, the bytes that are left, and which line comes next, counted from 1.
pub record Reading : Type 0 where
  pub kept : Kept
  pub rest : List ℕ
  pub line : ℕ

-- what has been read, by what is kept of it and the entries
abbrev pub part_of : Kept → List Entry → Part
part_of k es = record { heading = k.heading; entries = es; last = k.last; ended = k.ended }

-- Of these bytes the reader has read whole lines as those of a ledger, and the entries so far are these.
pub record HasRead (bytes : List ℕ) (es : List Entry) (r : Reading) : Type 0 where
  pub part : IsPart (part_of r.kept es)
  pub ticks : r.kept.ticks ≡ length es
  pub line : r.line ≡ suc (length (bodies_of (part_of r.kept es)))
  pub read : bytes ≡ fed (bodies_of (part_of r.kept es)) ++ r.rest

-- what a reader has read
abbrev pub IsReading : Reading → Type 0
IsReading r = (bytes : List ℕ) × (es : List Entry) × HasRead bytes es r

-- the bytes are the text of the ledger that can be read of this header and these entries
pub record HasReadAll (bytes : List ℕ) (es : List Entry) (h : Heading) : Type 0 where
  pub readable : IsReadable (record { heading = h; entries = es })
  pub text : text_of (record { heading = h; entries = es }) ≡ bytes

-- the entries of an item
abbrev pub entries_in : Item → List Entry
entries_in (Item.Ticks line) = entries_of line
entries_in _ = []

-- The reader has read one item more, and its line.
pub record GoesFurther (bytes : List ℕ) (es : List Entry) (old new : Reading) : Type 0 where
  pub item : Item
  pub fits : Fits old.kept item
  pub kept : new.kept ≡ keeping old.kept item
  pub read : HasRead bytes (es ++ entries_in item) new

-- The entries so far are the first of the ledger, and the header is its own once there are some.
pub record IsFrontOf (j : Journal) (es : List Entry) (r : Reading) : Type 0 where
  pub later : List Entry
  pub entries : j.entries ≡ es ++ later
  pub heading : 0 < length es → r.kept.heading ≡ j.heading

-- The line is one of entries that may follow what old has read, and new has read it.
pub record IsGiven (old new : Reading) (line : LedgerLine) : Type 0 where
  pub start : line.start ≡ old.kept.ticks
  pub count : 0 < line.count
  pub short : line.start + line.count ≤ MAX_RUN_TICKS
  pub label : HasLabel (size_in new.kept.heading) line.label
  pub event : HasOwnEvent (size_in new.kept.heading) line.label line.event
  pub shorter : length new.rest < length old.rest

-- The reader has just read this line, behind these entries.
pub record IsNextLine (bytes : List ℕ) (es : List Entry) (line : LedgerLine) (r : Reading) : Type 0 where
  pub read : HasRead bytes (es ++ entries_of line) r
  pub start : line.start ≡ length es
  pub count : 0 < line.count
  pub short : line.start + line.count ≤ MAX_RUN_TICKS
  pub label : HasLabel (size_in r.kept.heading) line.label

-- The reader has just read this line behind these entries, or there is none, and they are all.
abbrev pub ComesNext : List ℕ → List Entry → Option LedgerLine → Reading → Type 0
ComesNext bytes es None r = HasReadAll bytes es r.kept.heading
ComesNext bytes es (Some line) r = IsNextLine bytes es line r

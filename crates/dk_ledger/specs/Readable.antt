-- Which ledgers can be read, and which line of other bytes is wrong.
use Rattle.std.specs.Prelude.{ℕ, ◌≡◌, ◌<◌, ◌≤◌, ◌^◌, ◌==◌, true, false, List, [], ◌∷◌, length, take}
use Rattle.std.specs.List.{AllByRecursion, slice_split}
use Rattle.std.specs.Str.{bytes_eq}
use Rattle.dk_config.specs.Rules.{is_name}
use Rattle.dk_config.specs.declared.TheConstants.{MAX_RUN_TICKS, MAX_LEVELS, MAX_PROCESSES}
use Rattle.dk_trace.specs.declared.Entry.{Entry}
use Rattle.dk_trace.specs.Ranges.{Size, HasEntry}
use Rattle.dk_certify.specs.declared.table.TableRow.{TableRow}
use Rattle.dk_ledger.specs.declared.header.ProcessLine.{ProcessLine}
use Rattle.dk_ledger.specs.Heading.{Heading, name_of}
use Rattle.dk_ledger.specs.Ledgers.{ledger_text}

-- a header and the entries after it
pub record Journal : Type 0 where
  pub heading : Heading
  pub entries : List Entry

abbrev pub text_of : Journal → List ℕ
text_of j = ledger_text j.heading j.entries

-- the numbers of a level's line have at most 32 bits
pub record IsLevelRow (row : TableRow) : Type 0 where
  pub period : row.period < 2 ^ 32
  pub demand : row.demand < 2 ^ 32
  pub blocking : row.blocking < 2 ^ 32
  pub spare : row.spare < 2 ^ 32

-- the line of a process of a header that has so many levels
pub record IsProcessLine (levels : ℕ) (p : ProcessLine) : Type 0 where
  pub name : is_name p.name ≡ true
  pub level : p.level < levels
  pub budget : p.budget < 2 ^ 32

-- no two processes have one name
abbrev pub HaveOwnNames : Heading → Type 0
HaveOwnNames h = (p q : ℕ) → p < q → q < length h.processes → bytes_eq (name_of h p) (name_of h q) ≡ false

pub record IsReadableHeading (h : Heading) : Type 0 where
  pub some_levels : 1 ≤ length h.levels
  pub few_levels : length h.levels ≤ MAX_LEVELS
  pub levels : AllByRecursion IsLevelRow h.levels
  pub some_processes : 1 ≤ length h.processes
  pub few_processes : length h.processes ≤ MAX_PROCESSES
  pub processes : AllByRecursion (IsProcessLine (length h.levels)) h.processes
  pub own_names : HaveOwnNames h

-- how many levels and processes a header has
abbrev pub size_in : Heading → Size
size_in h = record { levels = length h.levels; processes = length h.processes }

-- the levels and processes that the entries name are those of the header
pub record IsReadable (j : Journal) : Type 0 where
  pub heading : IsReadableHeading j.heading
  pub entries : AllByRecursion (HasEntry (size_in j.heading)) j.entries
  pub short : length j.entries ≤ MAX_RUN_TICKS

-- all but the last
abbrev pub without_last : List (List ℕ) → List (List ℕ)
without_last [] = []
without_last (x ∷ []) = []
without_last (x ∷ y ∷ more) = x ∷ without_last (y ∷ more)

-- the lines that end with a line feed, without it
abbrev pub lines_in : List ℕ → List (List ℕ)
lines_in bytes = without_last (slice_split (λ b. b == 10) bytes)

-- both have n lines or more, and the first n are the same
pub record ShareLines (n : ℕ) (a b : List ℕ) : Type 0 where
  pub left : n ≤ length (lines_in a)
  pub right : n ≤ length (lines_in b)
  pub same : take n (lines_in a) ≡ take n (lines_in b)

-- no ledger that can be read has the text
abbrev pub IsNoText : List ℕ → Type 0
IsNoText bytes = (j : Journal) → IsReadable j → text_of j ≡ bytes → ⊥

-- Line n is the first by which the bytes are no such text: they have fewer than n lines, or their first n lines are those of no such text.
pub record IsWrongLine (n : ℕ) (bytes : List ℕ) : Type 0 where
  pub reached : (m : ℕ) → m < n → (j : Journal) × IsReadable j × ShareLines m bytes (text_of j)
  pub wrong : (j : Journal) → IsReadable j → ShareLines n bytes (text_of j) → ⊥

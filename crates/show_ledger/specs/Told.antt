-- What is kept of each main while a ledger is read.
use Rattle.std.specs.Prelude.{ℕ, zero, suc, ◌≡◌, ◌≤◌, ◌+◌, ◌-◌, ◌==◌, nat_lt, min, if◌then◌else◌, List, [], ◌∷◌, length, reverse, slice_index_or, slice_set}
use Rattle.std.specs.Option.{option_map_or}
use Rattle.dk_trace.specs.declared.Entry.{Entry}
use Rattle.dk_trace.specs.Entries.{is_budget_of, quiet, thread_of}
use Rattle.dk_ledger.specs.declared.line.LedgerLine.{LedgerLine}
use Rattle.dk_ledger.specs.Heading.{Heading}
use Rattle.dk_ledger.specs.ReadSoFar.{HasReadAll}
use Rattle.dk_window_report.specs.Firsts.{budget_at}
use Rattle.dk_window_report.specs.Late.{passed}
use Rattle.dk_window_report.specs.Owners.{main_owner}
use Rattle.dk_window_report.specs.Rows.{raised_if, row_of, stepped}
use Rattle.show_ledger.specs.declared.told.Told.{Told}
use Rattle.show_ledger.specs.Tenths.{tenth, tenths_of}

-- ---- the tenths with more windows

-- with so many windows more of tenth k, up to the last value of 32 bits
abbrev pub with_more : ℕ → ℕ → List ℕ → List ℕ
with_more k n ts = slice_set ts k (min (slice_index_or ts k 0 + n) 4294967295)

-- where the number of windows grew: the thread used so much in the first of them, and nothing in the others
abbrev pub counted : ℕ → ℕ → ℕ → ℕ → List ℕ → List ℕ
counted budget used before after ts =
    if nat_lt before after then with_more 0 (after - before - 1) (with_more (tenth budget used) 1 ts) else ts

-- ---- a main with more entries

-- up to tick now, where nothing happened to it meanwhile
abbrev pub told_at : ℕ → Told → Told
told_at now t =
    let row = passed t.tick (now - t.tick) t.row in
    if nat_lt t.tick now then (record {
      budget = t.budget;
      row = row;
      tick = now;
      tenths = counted t.budget t.row.did.used t.row.counts.windows row.counts.windows t.tenths;
    }) else t

-- with the entry of its next tick
abbrev pub told_with : Entry → Told → Told
told_with e t =
    let row = stepped t.tick e t.row in
    record {
      budget = t.budget;
      row = row;
      tick = t.tick + 1;
      tenths = counted t.budget (raised_if (is_budget_of t.row.thread e) t.row.did.used) t.row.counts.windows row.counts.windows t.tenths;
    }

-- with so many entries like this one
abbrev pub told_many : Entry → ℕ → Told → Told
told_many e zero t = t
told_many e (suc n) t = told_with e (told_many e n t)

-- with the entries of a line
abbrev pub told_line : LedgerLine → Told → Told
told_line line t =
    told_with (record { label = line.label; event = line.event }) (told_many (quiet line.label) (line.count - 1) (told_at line.start t))

-- ---- all mains

-- the main at the place changed, where there is one
abbrev pub changed : (Told → Told) → ℕ → List Told → List Told
changed f i [] = []
changed f zero (t ∷ ts) = f t ∷ ts
changed f (suc i) (t ∷ ts) = t ∷ changed f i ts

-- with the entries of a line, which are told of the main that has them; the others are left
abbrev pub mains_with : LedgerLine → List Told → List Told
mains_with line ts = option_map_or (λ x. if x.serial == 0 then changed (told_line line) x.process ts else ts) (thread_of line.label) ts

-- none is told of a later tick
abbrev pub AreUpTo : ℕ → List Told → Type 0
AreUpTo now [] = Unit {0}
AreUpTo now (t ∷ ts) = (t.tick ≤ now) × AreUpTo now ts

-- ---- what it stands for

-- This is kept of the main of process p after these entries. It is told up to its tick, and since then nothing happened to it.
pub record IsTold (h : Heading) (past : List Entry) (p : ℕ) (t : Told) : Type 0 where
  pub budget : t.budget ≡ budget_at h p
  pub tick : t.tick ≤ length past
  pub row : passed t.tick (length past - t.tick) t.row ≡ row_of past (main_owner h p)
  pub tenths :
      counted t.budget t.row.did.used t.row.counts.windows (row_of past (main_owner h p)).counts.windows t.tenths ≡ tenths_of h past p

-- of the mains from process p on
abbrev pub AreToldFrom : Heading → List Entry → ℕ → List Told → Type 0
AreToldFrom h past p [] = Unit {0}
AreToldFrom h past p (t ∷ ts) = IsTold h past p t × AreToldFrom h past (suc p) ts

-- of the main of each process of the header
pub record AreTold (h : Heading) (past : List Entry) (ts : List Told) : Type 0 where
  pub each : AreToldFrom h past 0 ts
  pub number : length ts ≡ length h.processes

-- of the ledger in these bytes, which has this header and so many entries
abbrev pub AreToldIn : List ℕ → Heading → List Told → ℕ → Type 0
AreToldIn bytes h ts ticks = (es : List Entry) × HasReadAll bytes es h × AreTold h (reverse es) ts × (ticks ≡ length es)

-- The table of the tenths of a ledger's mains, a record for each process.
use Rattle.std.specs.Prelude.{ℕ, ◌≡◌, List, ◌∷◌, ◌++◌, flat_map, length, map, reverse, decimal}
use Rattle.dk_config.specs.Sums.{below}
use Rattle.dk_trace.specs.declared.Entry.{Entry}
use Rattle.dk_ledger.specs.Heading.{Heading, name_of}
use Rattle.dk_ledger.specs.Readable.{IsReadable, Journal, text_of}
use Rattle.dk_window_report.specs.Owners.{main_owner, numbers_of}
use Rattle.show_rows.specs.declared.row.Form.{Form}
use Rattle.show_rows.specs.Rows.{head_told, told}
use Rattle.show_ledger.specs.declared.tenths.TheConstants.{COLUMNS, NO_SENTENCE}
use Rattle.show_ledger.specs.Tenths.{tenths_of}

-- the name of a process, how many windows of its main have ended, and in how many of them it used each number of tenths
abbrev pub main_told : List ℕ → ℕ → List ℕ → List ℕ
main_told name windows tenths = told Form.Record COLUMNS.now NO_SENTENCE.now (name ∷ decimal windows ∷ map decimal tenths)

-- of a process after these entries
abbrev pub process_told : Heading → List Entry → ℕ → List ℕ
process_told h past p = main_told (name_of h p) (numbers_of past (main_owner h p)).windows (tenths_of h past p)

-- a record for each process, in the header's order
abbrev pub tenths_csv : Heading → List Entry → List ℕ
tenths_csv h past = head_told Form.Record COLUMNS.now ++ flat_map (process_told h past) (below (length h.processes))

-- this is the table of the ledger in these bytes
abbrev pub IsTableIn : List ℕ → List ℕ → Type 0
IsTableIn bytes text = (j : Journal) × IsReadable j × (text_of j ≡ bytes) × (text ≡ tenths_csv j.heading (reverse j.entries))

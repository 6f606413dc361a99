-- Lines that the table hasn't: what befell each process, which window each thread overran first, and why a ledger isn't clean.
use Rattle.std.specs.Prelude.{ℕ, ◌==◌, if◌then◌else◌, Bool, List, [], ◌∷◌, ◌++◌, codes, decimal}
use Rattle.dk_ledger.specs.Heading.{Heading, name_of}
use Rattle.dk_window_report.specs.declared.account.Tally.{Tally}
use Rattle.dk_window_report.specs.declared.account.Account.{Account}
use Rattle.dk_window_report.specs.declared.row.Row.{Row}
use Rattle.dk_window_report.specs.Clean.{counts}
use Rattle.dk_window_report.specs.Firsts.{budget_at, first_tick, first_window}
use Rattle.show_rows.specs.declared.row.Form.{Form}
use Rattle.show_rows.specs.Rows.{note_told}
use Rattle.show_ledger.specs.declared.notes.TheConstants.{FAULTS, OVERRAN_COLUMNS, PROCESS, PROCESS_COLUMNS, REFUSED, TOTAL, TOTAL_COLUMNS, TROUBLE_COLUMNS}

-- in how many windows all threads overran
abbrev pub total_told : ℕ → List ℕ
total_told n = note_told Form.Line TOTAL_COLUMNS.now TOTAL.now (decimal n ∷ [])

-- the tick of the first, and a dash where there is none
abbrev pub first_word : Tally → List ℕ
first_word t = if t.count == 0 then codes "-" else decimal t.first

-- what befell a process
abbrev pub process_row : Heading → Account → List (List ℕ)
process_row h a =
    name_of h a.process ∷ decimal (budget_at h a.process) ∷ decimal a.refused.count ∷ first_word a.refused
    ∷ decimal a.faults.count ∷ first_word a.faults ∷ decimal a.slack.count ∷ first_word a.slack ∷ []

abbrev pub process_told : Heading → Account → List ℕ
process_told h a = note_told Form.Line PROCESS_COLUMNS.now PROCESS.now (process_row h a)

-- where it counts, the first window that the thread overran
abbrev pub overran_row : Heading → Row → List (List ℕ)
overran_row h r = name_of h r.thread.process ∷ decimal r.thread.serial ∷ decimal (first_window r) ∷ decimal (first_tick r) ∷ []

abbrev pub overran_told : List ℕ → Bool → Heading → List Account → Row → List ℕ
overran_told sentence sparing h accounts r =
    if counts sparing accounts r then note_told Form.Line OVERRAN_COLUMNS.now sentence (overran_row h r) else []

-- where calls were refused or threads faulted, how many and when first
abbrev pub trouble_told : List ℕ → Heading → ℕ → Tally → List ℕ
trouble_told sentence h p t =
    if t.count == 0 then [] else note_told Form.Line TROUBLE_COLUMNS.now sentence (name_of h p ∷ decimal t.count ∷ decimal t.first ∷ [])

abbrev pub troubles_told : Heading → Account → List ℕ
troubles_told h a = trouble_told REFUSED.now h a.process a.refused ++ trouble_told FAULTS.now h a.process a.faults

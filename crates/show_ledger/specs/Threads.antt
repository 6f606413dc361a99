-- What each thread of a ledger did in its windows, and what befell its process.
use Rattle.std.specs.Prelude.{ℕ, ◌==◌, if◌then◌else◌, List, [], ◌∷◌, ◌++◌, flat_map, slice_get, codes, decimal, Option, Some, None}
use Rattle.dk_trace.specs.declared.Entry.{Entry}
use Rattle.dk_ledger.specs.Heading.{Heading, name_of}
use Rattle.dk_window_report.specs.declared.account.Tally.{Tally}
use Rattle.dk_window_report.specs.declared.account.Account.{Account}
use Rattle.dk_window_report.specs.declared.row.Row.{Row}
use Rattle.dk_window_report.specs.Accounts.{accounts_of}
use Rattle.dk_window_report.specs.Firsts.{budget_at, first_tick, first_window}
use Rattle.dk_window_report.specs.Rows.{rows_of}
use Rattle.show_rows.specs.declared.row.Form.{Form}
use Rattle.show_rows.specs.Rows.{head_told, told}
use Rattle.show_ledger.specs.Cells.{told_if}
use Rattle.show_ledger.specs.declared.threads.TheConstants.{COLUMNS, THREAD}

-- a main or a child
abbrev pub kind_word : Row → List ℕ
kind_word r = if r.thread.serial == 0 then codes "main" else codes "child"

-- what the thread did, and which window it overran first
abbrev pub own_row : Heading → Row → List (List ℕ)
own_row h r =
    name_of h r.thread.process ∷ kind_word r ∷ decimal r.thread.serial
    ∷ decimal r.counts.windows ∷ decimal r.counts.waited ∷ decimal r.counts.stopped ∷ decimal r.counts.overran
    ∷ told_if r.counts.overran (first_window r) ∷ told_if r.counts.overran (first_tick r)
    ∷ decimal r.counts.least_used ∷ decimal r.counts.most_used ∷ decimal r.counts.first_done ∷ decimal r.counts.last_done ∷ []

-- the account of the process, where the row is that of its main
abbrev pub account_of_row : List Account → Row → Option Account
account_of_row accounts r = if r.thread.serial == 0 then slice_get accounts r.thread.process else None

abbrev pub first_of : Tally → List ℕ
first_of t = told_if t.count t.first

-- what befell the process, and nothing in the rows of children
abbrev pub befallen_row : Heading → Option Account → List (List ℕ)
befallen_row h None = [] ∷ [] ∷ [] ∷ [] ∷ [] ∷ [] ∷ [] ∷ []
befallen_row h (Some a) =
    decimal (budget_at h a.process) ∷ decimal a.refused.count ∷ first_of a.refused
    ∷ decimal a.faults.count ∷ first_of a.faults ∷ decimal a.slack.count ∷ first_of a.slack ∷ []

abbrev pub thread_told : Form → Heading → List Account → Row → List ℕ
thread_told form h accounts r = told form COLUMNS.now THREAD.now (own_row h r ++ befallen_row h (account_of_row accounts r))

-- the table of a past: a record for each thread
abbrev pub windows_csv : Heading → List Entry → List ℕ
windows_csv h past = head_told Form.Record COLUMNS.now ++ flat_map (thread_told Form.Record h (accounts_of h past)) (rows_of h past)

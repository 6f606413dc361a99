-- The lines that tell what the threads of a ledger did in their windows, what happened first, and why a ledger isn't clean.
use Rattle.std.specs.Prelude.{ℕ, ◌++◌, Bool, true, false, List, [], flat_map}
use Rattle.dk_trace.specs.declared.Entry.{Entry}
use Rattle.dk_ledger.specs.Heading.{Heading}
use Rattle.dk_window_report.specs.declared.account.Account.{Account}
use Rattle.dk_window_report.specs.declared.row.Row.{Row}
use Rattle.dk_window_report.specs.Accounts.{accounts_of}
use Rattle.dk_window_report.specs.Clean.{is_strictly_clean}
use Rattle.dk_window_report.specs.Report.{overruns_in}
use Rattle.dk_window_report.specs.Rows.{rows_of}
use Rattle.show_rows.specs.declared.row.Form.{Form}
use Rattle.show_ledger.specs.declared.lines.Strictness.{Strictness}
use Rattle.show_ledger.specs.declared.lines.Strictness.TheVariants as strictness
use Rattle.show_ledger.specs.declared.notes.TheConstants.{OVERRAN, STRICT_OVERRAN}
use Rattle.show_ledger.specs.Notes.{overran_told, process_told, total_told, troubles_told}
use Rattle.show_ledger.specs.Threads.{thread_told}

-- each thread that overran and counts, and the refused calls and the faults of each process
abbrev pub strict_by : Bool → Heading → List Row → List Account → List ℕ
strict_by sparing h rows accounts =
    flat_map (overran_told STRICT_OVERRAN.now sparing h accounts) rows ++ flat_map (troubles_told h) accounts

-- why it isn't clean, where it has to be
abbrev pub reasons_by : Strictness → Heading → List Row → List Account → List ℕ
reasons_by strictness.Free h rows accounts = []
reasons_by strictness.Strict h rows accounts = strict_by false h rows accounts
reasons_by strictness.Sparing h rows accounts = strict_by true h rows accounts

-- what each thread did; what befell each process, and which window each thread overran first; and why it isn't clean
abbrev pub lines_by : Strictness → Heading → List Row → List Account → List ℕ
lines_by s h rows accounts =
    flat_map (thread_told Form.Line h accounts) rows ++ (total_told (overruns_in rows) ++ (flat_map (process_told h) accounts
    ++ (flat_map (overran_told OVERRAN.now false h accounts) rows ++ reasons_by s h rows accounts)))

-- of a past
abbrev pub windows_lines : Strictness → Heading → List Entry → List ℕ
windows_lines s h past = lines_by s h (rows_of h past) (accounts_of h past)

-- it is as clean as it has to be
abbrev pub is_sound : Strictness → Heading → List Entry → Bool
is_sound strictness.Free h past = true
is_sound strictness.Strict h past = is_strictly_clean false h past
is_sound strictness.Sparing h past = is_strictly_clean true h past

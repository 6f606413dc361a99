-- The text of a report.
use Rattle.std.specs.Prelude.{ℕ, suc, ◌++◌, ◌∷◌, [], List, length, decimal, codes}
use Rattle.dk_trace.specs.declared.Entry.{Entry}
use Rattle.dk_ledger.specs.Heading.{Heading, ended, name_of}
use Rattle.dk_ledger.specs.Ledgers.{end_line}
use Rattle.dk_report.specs.declared.counting.ProcessTotals.{ProcessTotals}
use Rattle.dk_report.specs.Counts.{Numbers, numbers_of}

abbrev pub total_body : Numbers → List ℕ
total_body n =
    codes "total " ++ decimal n.entries ++ codes " kernel " ++ decimal n.kernel ++ codes " switch "
    ++ decimal n.switch ++ codes " body " ++ decimal n.body
    ++ codes " slack " ++ decimal n.slack ++ codes " idle " ++ decimal n.idle

abbrev pub kernel_body : ℕ → ℕ → List ℕ
kernel_body j n = codes "kernel level " ++ decimal j ++ codes " ticks " ++ decimal n

-- what a process had on slack, and its events
abbrev pub slack_part : ProcessTotals → List ℕ
slack_part t =
    codes " timeline " ++ decimal t.timeline ++ codes " reclaimed " ++ decimal t.reclaimed
    ++ codes " created " ++ decimal t.created ++ codes " refused " ++ decimal t.refused ++ codes " faults "
    ++ decimal t.faults

abbrev pub process_body : List ℕ → ProcessTotals → List ℕ
process_body name t =
    codes "process " ++ name ++ codes " in " ++ decimal t.ins ++ codes " run " ++ decimal t.runs
    ++ codes " call " ++ decimal t.calls ++ codes " out " ++ decimal t.outs
    ++ slack_part t

-- the lines of the levels from j on
abbrev pub kernel_lines : ℕ → List ℕ → List ℕ
kernel_lines j [] = []
kernel_lines j (n ∷ ns) = ended (kernel_body j n) ++ kernel_lines (suc j) ns

-- the lines of the processes from p on
abbrev pub process_lines : Heading → ℕ → List ProcessTotals → List ℕ
process_lines h p [] = []
process_lines h p (t ∷ ts) = ended (process_body (name_of h p) t) ++ process_lines h (suc p) ts

-- the lines of the processes and of the end
abbrev pub rest_text : Heading → List ProcessTotals → ℕ → List ℕ
rest_text h ts n = process_lines h 0 ts ++ end_line n

-- the lines after the first
abbrev pub lines_text : Heading → Numbers → List ℕ
lines_text h n = kernel_lines 0 n.levels ++ rest_text h n.processes n.entries

abbrev pub numbers_text : Heading → Numbers → List ℕ
numbers_text h n = ended (total_body n) ++ lines_text h n

-- the report of these entries
abbrev pub report_text : Heading → List Entry → List ℕ
report_text h es = numbers_text h (numbers_of (length h.levels) (length h.processes) es)

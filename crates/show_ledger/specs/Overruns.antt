-- Each window that each thread of a ledger overran.
use Rattle.std.specs.Prelude.{ℕ, ◌/◌, ◌++◌, List, [], ◌∷◌, flat_map, reverse, decimal}
use Rattle.dk_trace.specs.declared.Entry.{Entry}
use Rattle.dk_ledger.specs.Heading.{Heading, name_of}
use Rattle.dk_overrun_spans.specs.declared.overrun.Overrun.{Overrun}
use Rattle.dk_overrun_spans.specs.Overruns.{overruns}
use Rattle.show_rows.specs.declared.row.Form.{Form}
use Rattle.show_rows.specs.Rows.{note_told}
use Rattle.show_ledger.specs.declared.lines.Strictness.TheVariants as strictness
use Rattle.show_ledger.specs.declared.overruns.TheConstants.{COLUMNS, OVERRUN}
use Rattle.show_ledger.specs.Lines.{windows_lines}

-- the window, with its number among those of its level, from 0, and the tick with which it began
abbrev pub overrun_row : Heading → Overrun → List (List ℕ)
overrun_row h o =
    name_of h o.thread.process ∷ decimal o.thread.serial ∷ decimal (o.start / o.period) ∷ decimal o.start ∷ []

abbrev pub overrun_told : Heading → Overrun → List ℕ
overrun_told h o = note_told Form.Line COLUMNS.now OVERRUN.now (overrun_row h o)

-- all that is told of the windows of a ledger, and behind it each that a thread overran
abbrev pub all_windows : Heading → List Entry → List ℕ
all_windows h past = windows_lines strictness.Free h past ++ flat_map (overrun_told h) (overruns h (reverse past))

-- How the entries of a ledger are cut into lines.
use Rattle.std.specs.Prelude.{ℕ, suc, ◌==◌, ◌&&◌, Bool, true, false, List, [], ◌∷◌, Option, Some, None, if◌then◌else◌}
use Rattle.dk_trace.specs.declared.Source.{Source}
use Rattle.dk_trace.specs.declared.Work.{Work}
use Rattle.dk_trace.specs.declared.Label.{Label}
use Rattle.dk_trace.specs.declared.Event.{Event}
use Rattle.dk_trace.specs.declared.Entry.{Entry}
use Rattle.dk_trace.specs.Entries.{is_same}
use Rattle.dk_ledger.specs.declared.line.LedgerLine.{LedgerLine}

abbrev pub same_source : Source → Source → Bool
same_source Source.Timeline Source.Timeline = true
same_source (Source.Reclaimed i) (Source.Reclaimed j) = i == j
same_source _ _ = false

abbrev pub same_work : Work → Work → Bool
same_work Work.In Work.In = true
same_work Work.Run Work.Run = true
same_work Work.Call Work.Call = true
same_work _ _ = false

abbrev pub same_label : Label → Label → Bool
same_label (Label.Kernel i) (Label.Kernel j) = i == j
same_label (Label.In x) (Label.In y) = is_same x y
same_label (Label.Run x) (Label.Run y) = is_same x y
same_label (Label.Call x) (Label.Call y) = is_same x y
same_label (Label.Out x) (Label.Out y) = is_same x y
same_label (Label.Slack x s w) (Label.Slack y t v) = is_same x y && same_source s t && same_work w v
same_label Label.Idle Label.Idle = true
same_label _ _ = false

abbrev pub has_none : Option Event → Bool
has_none None = true
has_none (Some e) = false

-- an entry without an event goes on one line with the next entry of its label
abbrev pub joins : Label → Option Event → Label → Bool
joins label event next = has_none event && same_label label next

-- the line of one entry
abbrev pub single : ℕ → Entry → LedgerLine
single start e = record { start = start; count = 1; label = e.label; event = e.event }

-- an entry before the lines of those after it
abbrev pub put_before : ℕ → Entry → List LedgerLine → List LedgerLine
put_before start e [] = single start e ∷ []
put_before start e (l ∷ ls) =
    if joins e.label e.event l.label then (record l { start = start; count = suc l.count }) ∷ ls
    else (single start e ∷ l ∷ ls)

-- the lines of entries of which the first is of this tick
abbrev pub lines_from : ℕ → List Entry → List LedgerLine
lines_from start [] = []
lines_from start (e ∷ es) = put_before start e (lines_from (suc start) es)

abbrev pub lines_of : List Entry → List LedgerLine
lines_of es = lines_from 0 es

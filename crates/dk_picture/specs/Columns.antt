-- What is counted of the groups, as sums over them.
use Rattle.std.specs.Prelude.{ℕ, Bool, true, false, List, Option, Some, sum_by, if◌then◌else◌}
use Rattle.dk_trace.specs.declared.Label.{Label}
use Rattle.dk_trace.specs.declared.Event.{Event}
use Rattle.dk_ledger.specs.declared.line.LedgerLine.{LedgerLine}
use Rattle.dk_picture.specs.declared.columns.Column.{Column}
use Rattle.dk_picture.specs.declared.columns.Column.TheVariants as column
use Rattle.dk_picture.specs.declared.columns.Sort.{Sort}
use Rattle.dk_picture.specs.declared.columns.Sort.TheVariants as sort
use Rattle.dk_picture.specs.declared.rows.Row.{Row}
use Rattle.dk_picture.specs.Rows.{takes}

abbrev pub sort_of : Label → Sort
sort_of (Label.Kernel j) = sort.Kernel
sort_of (Label.In x) = sort.Budget
sort_of (Label.Run x) = sort.Budget
sort_of (Label.Call x) = sort.Budget
sort_of (Label.Out x) = sort.Budget
sort_of (Label.Slack x source work) = sort.Slack
sort_of Label.Idle = sort.Idle

abbrev pub is_same_sort : Sort → Sort → Bool
is_same_sort sort.Kernel sort.Kernel = true
is_same_sort sort.Budget sort.Budget = true
is_same_sort sort.Slack sort.Slack = true
is_same_sort sort.Idle sort.Idle = true
is_same_sort _ _ = false

abbrev pub sort_weight : Sort → LedgerLine → ℕ
sort_weight s g = if is_same_sort (sort_of g.label) s then g.count else 0

-- the ticks of the sort
abbrev pub sort_sum : List LedgerLine → Sort → ℕ
sort_sum gs s = sum_by (sort_weight s) gs

abbrev pub is_idle : Label → Bool
is_idle Label.Idle = true
is_idle _ = false

abbrev pub is_slack : Label → Bool
is_slack (Label.Slack x source work) = true
is_slack _ = false

abbrev pub refused : Option Event → ℕ
refused (Some (Event.Refused refusal)) = 1
refused _ = 0

abbrev pub faulted : Option Event → ℕ
faulted (Some (Event.Fault kind)) = 1
faulted _ = 0

-- what a group adds to a column of its row
abbrev pub weight : Column → LedgerLine → ℕ
weight column.Ticks g = if is_idle g.label then 0 else g.count
weight column.Slack g = if is_slack g.label then g.count else 0
weight column.Refused g = refused g.event
weight column.Faults g = faulted g.event

abbrev pub column_weight : Column → Row → LedgerLine → ℕ
column_weight c r g = if takes g.label r then weight c g else 0

abbrev pub column_sum : List LedgerLine → Row → Column → ℕ
column_sum gs r c = sum_by (column_weight c r) gs

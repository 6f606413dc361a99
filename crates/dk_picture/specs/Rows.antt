-- The rows of a picture, and which of them takes a label's ticks.
use Rattle.std.specs.Prelude.{ℕ, ◌++◌, ◌∷◌, [], ◌==◌, ◌&&◌, not, Bool, true, false, List, Option, Some, None, flat_map, fold, length, map, nat_le, position, slice_get, unwrap_or, if◌then◌else◌}
use Rattle.std.specs.List.{list_any}
use Rattle.std.specs.Option.{option_map_or}
use Rattle.dk_config.specs.Sums.{below}
use Rattle.dk_trace.specs.declared.ThreadId.{ThreadId}
use Rattle.dk_trace.specs.declared.Label.{Label}
use Rattle.dk_trace.specs.Entries.{is_same, thread_of}
use Rattle.dk_ledger.specs.declared.line.LedgerLine.{LedgerLine}
use Rattle.dk_ledger.specs.Heading.{Heading}
use Rattle.dk_picture.specs.declared.rows.Row.{Row}
use Rattle.dk_picture.specs.declared.rows.Row.TheVariants as row
use Rattle.dk_picture.specs.Numbers.{own_rows}

-- a thread has a row of its own, or shares one with its process's children
abbrev pub takes_thread : Row → ThreadId → Bool
takes_thread row.Kernel x = false
takes_thread (row.Thread y) x = is_same y x
takes_thread (row.Children p) x = (x.process == p) && not (x.serial == 0)

abbrev pub is_kernel : Row → Bool
is_kernel row.Kernel = true
is_kernel _ = false

-- whether ticks of the label stand in the row
abbrev pub takes : Label → Row → Bool
takes (Label.Kernel j) r = is_kernel r
takes (Label.In x) r = takes_thread r x
takes (Label.Run x) r = takes_thread r x
takes (Label.Call x) r = takes_thread r x
takes (Label.Out x) r = takes_thread r x
takes (Label.Slack x source work) r = takes_thread r x
takes Label.Idle r = is_kernel r

-- the first row that takes the label
abbrev pub row_at : List Row → Label → ℕ
row_at rows label = unwrap_or (position (takes label) rows) 0

-- the serial of a child of the process
abbrev pub own_child : ℕ → ThreadId → Option ℕ
own_child p x = if (x.process == p) && not (x.serial == 0) then Some x.serial else None

abbrev pub child_in : ℕ → Option ThreadId → Option ℕ
child_in p None = None
child_in p (Some x) = own_child p x

abbrev pub child_of : ℕ → Label → Option ℕ
child_of p label = child_in p (thread_of label)

abbrev pub with_child : List ℕ → Option ℕ → List ℕ
with_child ss None = ss
with_child ss (Some s) = if list_any (λ t. t == s) ss then ss else ss ++ s ∷ []

-- the serials of the process's children that have groups, each once, in the order of their first ticks
abbrev pub children : List LedgerLine → ℕ → List ℕ
children gs p = fold (λ ss g. with_child ss (child_of p g.label)) [] gs

abbrev pub thread_of_process : ℕ → ℕ → Row
thread_of_process p s = row.Thread (record { process = p; serial = s })

-- a row for each child, or one for all where they are too many
abbrev pub child_rows : ℕ → List ℕ → List Row
child_rows p ss = if nat_le (length ss) own_rows then map (thread_of_process p) ss else row.Children p ∷ []

-- whether the process's main has a tick
abbrev pub is_seen : List LedgerLine → ℕ → Bool
is_seen gs p = list_any (λ g. takes g.label (thread_of_process p 0)) gs

-- a main without a tick has no row
abbrev pub main_rows : List LedgerLine → ℕ → List Row
main_rows gs p = if is_seen gs p then thread_of_process p 0 ∷ [] else []

abbrev pub process_rows : List LedgerLine → ℕ → List Row
process_rows gs p = main_rows gs p ++ child_rows p (children gs p)

-- the level on the process's line of the header
abbrev pub level_of : Heading → ℕ → ℕ
level_of h p = option_map_or (λ line. line.level) (slice_get h.processes p) 0

abbrev pub rows_at_level : Heading → List LedgerLine → ℕ → ℕ → List Row
rows_at_level h gs j p = if level_of h p == j then process_rows gs p else []

abbrev pub level_rows : Heading → List LedgerLine → ℕ → List Row
level_rows h gs j = flat_map (rows_at_level h gs j) (below (length h.processes))

-- the kernel's row, and then those of the levels, the fastest first
abbrev pub rows_of : Heading → List LedgerLine → List Row
rows_of h gs = row.Kernel ∷ flat_map (level_rows h gs) (below (length h.levels))

abbrev pub quiet_main : List LedgerLine → ℕ → List ℕ
quiet_main gs p = if is_seen gs p then [] else p ∷ []

-- the processes whose mains have no tick, in the header's order
abbrev pub quiet_mains : Heading → List LedgerLine → List ℕ
quiet_mains h gs = flat_map (quiet_main gs) (below (length h.processes))

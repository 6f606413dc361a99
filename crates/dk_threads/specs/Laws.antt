-- What the laws of the rows say, of every configuration and every past.
use Rattle.std.specs.Prelude.{ℕ, suc, ◌≡◌, ◌+◌, ◌<◌, ◌≤◌, ◌==◌, true, false, List, ◌∷◌, Some, find, is_some, length, option_map, slice_get}
use Rattle.std.specs.List.{list_any}
use Rattle.dk_config.specs.Checked.{IsChecked}
use Rattle.dk_config.specs.Windows.{window_end}
use Rattle.dk_config.specs.Configuration.{Configuration}
use Rattle.dk_config.specs.declared.TheConstants.{MAX_CHILDREN}
use Rattle.dk_trace.specs.declared.Event.{Event}
use Rattle.dk_trace.specs.declared.Label.{Label}
use Rattle.dk_trace.specs.declared.ThreadId.{ThreadId}
use Rattle.dk_trace.specs.Entries.{is_end, thread_of}
use Rattle.dk_trace.specs.Threads.{threads}
use Rattle.dk_trace.specs.declared.Entry.{Entry}
use Rattle.dk_windows.specs.Clock.{clock_at}
use Rattle.dk_threads.specs.declared.row.ThreadRow.{ThreadRow}
use Rattle.dk_threads.specs.Rows.{is_row_of, is_taken}
use Rattle.dk_threads.specs.Recount.{IsBooked, IsCharged, IsClosed, IsOpen, IsRecount, counted_rows, entry_of, is_there, leaves_threads, main_id, unplaced}
use Rattle.dk_threads.specs.Table.{AreFamilies, Table, all_stopped, begun, changed_all, changed_at, child_stopped, children_at, family_ended, family_started, find_row, free_slot, runs, serials_at}

-- A tick without an event changes no row.
abbrev pub TickKeepsRows : Type 0
TickKeepsRows =
    (c : Configuration) (e : Entry) (past : List Entry) (table : Table) → IsOpen c past table
    → IsCharged c e past table

-- A create of a main adds the row of the child.
abbrev pub CreateAddsRow : Type 0
CreateAddsRow =
    (c : Configuration) (label : Label) (past : List Entry) (table : Table) (p serial level quota : ℕ) → IsChecked c
    → p < length c.processes → level < length c.levels → thread_of label ≡ Some (main_id p)
    → serial ≡ serials_at table p + 1 → IsCharged c (entry_of label (Event.Create serial level quota)) past table
    → IsBooked c (entry_of label (Event.Create serial level quota)) past
    (changed_at (begun p level (window_end c level (length past))) p table)

-- An event that makes no thread and stops none changes no row.
abbrev pub OthersKeepRows : Type 0
OthersKeepRows =
    (c : Configuration) (e : Entry) (past : List Entry) (table : Table) → leaves_threads e.event ≡ true
    → IsCharged c e past table → IsBooked c e past table

-- The end of a main stops all rows of its process.
abbrev pub MainsEndStopsRows : Type 0
MainsEndStopsRows =
    (c : Configuration) (label : Label) (past : List Entry) (table : Table) (p : ℕ) (event : Event) → IsChecked c
    → AreFamilies table.levels table.families → p < length c.processes → thread_of label ≡ Some (main_id p)
    → is_end event ≡ true → IsCharged c (entry_of label event) past table
    → IsBooked c (entry_of label event) past (changed_at (all_stopped (clock_at c (length past))) p table)

-- The end of a child that runs stops its row.
abbrev pub ChildsEndStopsRow : Type 0
ChildsEndStopsRow =
    (c : Configuration) (label : Label) (past : List Entry) (table : Table) (x : ThreadId) (event : Event)
    → IsChecked c → AreFamilies table.levels table.families → x.process < length c.processes
    → (x.serial == 0) ≡ false → runs table x ≡ true → thread_of label ≡ Some x → is_end event ≡ true
    → IsCharged c (entry_of label event) past table
    → IsBooked c (entry_of label event) past (changed_at (child_stopped x (clock_at c (length past))) x.process table)

-- A delete by the main of a child that runs stops the child's row.
abbrev pub DeleteStopsRow : Type 0
DeleteStopsRow =
    (c : Configuration) (label : Label) (past : List Entry) (table : Table) (x : ThreadId) → IsChecked c
    → AreFamilies table.levels table.families → x.process < length c.processes → (x.serial == 0) ≡ false
    → runs table x ≡ true → thread_of label ≡ Some (main_id x.process)
    → IsCharged c (entry_of label (Event.Delete x.serial)) past table
    → IsBooked c (entry_of label (Event.Delete x.serial)) past
    (changed_at (child_stopped x (clock_at c (length past))) x.process table)

-- At the next tick the rows end and start that are due.
abbrev pub OpeningMovesRows : Type 0
OpeningMovesRows =
    (c : Configuration) (e : Entry) (past : List Entry) (table : Table) → AreFamilies table.levels table.families
    → IsClosed c e past table
    → IsOpen c (e ∷ past)
    (changed_all (family_started (length (e ∷ past))) (changed_all (family_ended (length (e ∷ past))) table))

-- A thread has a row exactly where it is there by the past.
abbrev pub TellsWhoIsThere : Type 0
TellsWhoIsThere =
    (c : Configuration) (tick : ℕ) (past : List Entry) (table : Table) (id : ThreadId) → IsRecount c tick past table
    → is_some (find_row table id) ≡ list_any (is_there c tick id) (threads c past)

-- The row of a thread is that of the past, but for the slot.
abbrev pub TellsRows : Type 0
TellsRows =
    (c : Configuration) (tick : ℕ) (past : List Entry) (table : Table) (id : ThreadId) → IsRecount c tick past table
    → id.process < length c.processes
    → option_map unplaced (find_row table id) ≡ find (is_row_of id) (counted_rows c tick past id.process)

-- And so is the row of a child by its place.
abbrev pub TellsChildren : Type 0
TellsChildren =
    (c : Configuration) (tick : ℕ) (past : List Entry) (table : Table) (process index : ℕ)
    → IsRecount c tick past table → process < length c.processes
    → option_map unplaced (slice_get (children_at table process) index)
    ≡ slice_get (counted_rows c tick past process) (suc index)

-- With room for a child a slot is free.
abbrev pub FreesSlots : Type 0
FreesSlots =
    (rows : List ThreadRow) → length rows < MAX_CHILDREN
    → (1 ≤ free_slot rows) × (free_slot rows ≤ MAX_CHILDREN) × (is_taken rows (free_slot rows) ≡ false)

-- The row, the slot and the node of a thread.
use Rattle.dk_recount.proofs.Names.{◌≡◌, ap, arith, option_map_or, ThreadId, ThreadRow, Table, AreFamilies, slots-differ, row-slot, HasRow, slot_in, node_in, nat_tests}

pub slot-is : (table : Table) (x : ThreadId) (h : HasRow table x) → slot_in table x ≡ h.row.slot
slot-is table x h = ap (λ o. option_map_or (λ (row : ThreadRow). row.slot) o 0) h.found

-- two threads that have rows and one node have one name
pub nodes-differ : (table : Table) (x y : ThreadId) → AreFamilies table.levels table.families → HasRow table x → HasRow table y
    → node_in table x ≡ node_in table y → x ≡ y
nodes-differ table x y are one two same = grind (arith, nat_tests, row-slot, slot-is, slots-differ)

use Rattle.dk_dispatch.proofs.Names.{ℕ, ◌≡◌, ◌<◌, ◌≤◌, Some, option_map, length, ThreadId, ThreadRow, find_row}
use Rattle.dk_dispatch.proofs.Seats.{seats-fit}
use Rattle.dk_dispatch.proofs.Ticking.{at-ready}
use Rattle.dk_dispatch.proofs.dispatcher.Dispatcher.slots_fit.Goals as goal

pub returns : goal.returns
returns c =
    at-ready _ _ _ c.self.view_is c.requires c.self.invariant
    (λ k past t. (x : ThreadId) (s : ℕ) → option_map (λ (row : ThreadRow). row.slot) (find_row t x) ≡ Some s → (x.process < length k.processes) × (s ≤ 8))
    (seats-fit _ _ _ c.rows_are_in_order.ensures)

use Rattle.dk_dispatch.proofs.Names.{ℕ, ◌<◌, ◌≤◌, length, MAX_THREADS, counted_rows}
use Rattle.dk_dispatch.proofs.Seats.{rows-few}
use Rattle.dk_dispatch.proofs.Ticking.{at-ready}
use Rattle.dk_dispatch.proofs.dispatcher.Dispatcher.rows_are_few.Goals as goal

pub returns : goal.returns
returns c =
    at-ready _ _ _ c.self.view_is c.requires c.self.invariant
    (λ k past t. (p : ℕ) → p < length k.processes → length (counted_rows k (length past) past p) ≤ MAX_THREADS)
    (rows-few _ _ _ c.rows_are_in_order.ensures)

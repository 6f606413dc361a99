-- What stands at one time of a tick.
use Rattle.std.specs.Prelude.{ℕ}
use Rattle.dk_dispatch.specs.Standing.{Dispatched}

-- the dispatcher, the image of one process or those of all, and the steps so far
pub record Snapshot (Images : Type 0) : Type 0 where
  pub dispatcher : Dispatched
  pub images : Images
  pub steps : ℕ

abbrev pub snapshot : {Images : Type 0} → Dispatched → Images → ℕ → Snapshot Images
snapshot dispatcher images steps = record { dispatcher = dispatcher; images = images; steps = steps }

-- Who waits first of all levels.
use Rattle.std.specs.Prelude.{ℕ, ◌≡◌, ◌<◌, List, Some, length, slice_get}
use Rattle.dk_rail.specs.declared.level_queues.Waiting.{Waiting}
use Rattle.dk_rail.specs.Queues.{AreQuiet, queue_at}

pub record IsFirst (lists : List (List ℕ)) (w : Waiting) : Type 0 where
  pub known : w.level < length lists
  pub before : AreQuiet w.level lists
  pub front : slice_get (queue_at lists w.level) 0 ≡ Some w.node

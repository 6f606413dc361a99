-- Who stands first of all ready queues.
use Rattle.std.specs.Prelude.{ℕ, ◌≡◌, ◌<◌, List, Some, get_or, length, slice_get}
use Rattle.dk_trace.specs.declared.Phase.{Phase}
use Rattle.dk_rail.specs.Queues.{AreQuiet, queue_at}
use Rattle.dk_rail.specs.declared.level_queues.Waiting.{Waiting}
use Rattle.dk_trace.specs.JobSteps.{HasBody}
use Rattle.dk_ready.specs.declared.first.First.{First}
use Rattle.dk_ready.specs.declared.seat.Seat.{Seat}
use Rattle.dk_ready.specs.Roster.{Roster, seat_at, told_phase, vacant}

-- nobody is queued before it, and its thread sits on its node at its level
pub record IsFirst (r : Roster) (first : First) : Type 0 where
  pub known : first.level < length r.ready.lists
  pub before : AreQuiet first.level r.ready.lists
  pub front : slice_get (queue_at r.ready.lists first.level) 0 ≡ Some first.node
  pub thread : (seat_at r first.node).thread ≡ first.thread
  pub level : (seat_at r first.node).level ≡ first.level

-- it sits on the node that waits, and its level is the one at which that node waits
pub record IsSeated (seats : List Seat) (waiting : Waiting) (first : First) : Type 0 where
  pub node : first.node ≡ waiting.node
  pub level : first.level ≡ waiting.level
  pub thread : (get_or seats first.node vacant).thread ≡ first.thread
  pub seat : (get_or seats first.node vacant).level ≡ first.level

-- and it computes in the next tick that it has
pub record IsComputing (r : Roster) (first : First) : Type 0 where
  pub stands : IsFirst r first
  pub phase : told_phase r.switch (seat_at r first.node).job ≡ Some Phase.Body

-- what is kept in mind of it: it computes for so many ticks, if for any
pub record IsKept (r : Roster) (body : ℕ) (first : First) : Type 0 where
  pub stands : IsFirst r first
  pub computes : 0 < body → HasBody r.switch body (seat_at r first.node).job

-- and in so many ticks, after which something is left
pub record IsComputingFor (r : Roster) (ticks : ℕ) (first : First) : Type 0 where
  pub stands : IsFirst r first
  pub some : 0 < ticks
  pub body : HasBody r.switch ticks (seat_at r first.node).job

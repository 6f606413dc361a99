-- What is found by looking at the levels one after the other.
use Rattle.std.specs.Prelude.{ℕ, ◌≡◌, ◌<◌, ◌≤◌, Some, length}
use Rattle.dk_trace.specs.declared.ThreadId.{ThreadId}
use Rattle.dk_trace.specs.declared.Choice.{Choice}
use Rattle.dk_slack.specs.Wishes.{first_node}
use Rattle.dk_ready.specs.declared.first.First.{First}
use Rattle.dk_recount.specs.Tables.{Tables, node_in}
use Rattle.dk_recount.specs.Charging.{level_in}
use Rattle.dk_recount.specs.Choosing.{HasNoWish, HasNoWork, work_in}
use Rattle.dk_dispatch.specs.declared.tables.choosing.FirstWork.{FirstWork}

-- the first level that has work, with that work; the end of the levels and nobody where none has
pub record IsFirstWork (d : Tables) (work : FirstWork) : Type 0 where
  pub within : work.level ≤ length d.kernel
  pub before : HasNoWork d work.level
  pub there : work.level < length d.kernel → work_in d work.level ≡ Some work.choice
  pub nobody : work.level ≡ length d.kernel → work.choice ≡ Choice.Idle

-- it is told where the thread sits, and at which level
pub record IsSeatOf (d : Tables) (x : ThreadId) (seat : First) : Type 0 where
  pub node : seat.node ≡ node_in d.threads x
  pub level : seat.level ≡ level_in d x

-- the oldest wish of the first level before the last that has any
pub record IsFirstWish (d : Tables) (last node : ℕ) : Type 0 where
  pub level : ℕ
  pub within : level < last
  pub before : HasNoWish d level
  pub there : first_node level d.slack.wishes ≡ Some node

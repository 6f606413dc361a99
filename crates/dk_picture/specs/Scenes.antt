-- What is drawn in a picture.
use Rattle.std.specs.Prelude.{ℕ, List, length}
use Rattle.dk_ledger.specs.declared.line.LedgerLine.{LedgerLine}
use Rattle.dk_ledger.specs.Heading.{Heading}
use Rattle.dk_hold_spans.specs.declared.hold.Hold.{Hold}
use Rattle.dk_picture.specs.declared.frame.Frame.{Frame}
use Rattle.dk_picture.specs.declared.rows.Row.{Row}
use Rattle.dk_picture.specs.HoldBars.{mutex_rows}
use Rattle.dk_picture.specs.Promises.{Promised}
use Rattle.dk_picture.specs.Rows.{quiet_mains, rows_of}

-- the rows of threads and of mutexes, the processes whose mains have no tick, the groups, the holds, the lines up to the
-- range's end that make a child, and what a configuration promises
pub record Scene : Type 0 where
  pub rows : List Row
  pub quiet : List ℕ
  pub mutexes : List ℕ
  pub groups : List LedgerLine
  pub holds : List Hold
  pub makings : List LedgerLine
  pub promised : Promised

-- what is drawn of these groups, holds and lines, and of what is promised
abbrev pub scene_of : Heading → Promised → List LedgerLine → List Hold → List LedgerLine → Scene
scene_of h x gs ds ms = record {
  rows = rows_of h gs;
  quiet = quiet_mains h gs;
  mutexes = mutex_rows ds;
  groups = gs;
  holds = ds;
  makings = ms;
  promised = x;
}

abbrev pub frame_of : Heading → Scene → Frame
frame_of h c = record {
  levels = length h.levels;
  rows = length c.rows;
  quiet = length c.quiet;
  mutexes = length c.mutexes;
}

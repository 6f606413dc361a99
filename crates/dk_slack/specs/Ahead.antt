-- Whose slack the next ticks are.
use Rattle.std.specs.Prelude.{ℕ, ◌≡◌, ◌<◌, false, length, Some, None}
use Rattle.dk_slack.specs.declared.table.ahead.Ahead.{Ahead}
use Rattle.dk_slack.specs.Slack.{Slack}
use Rattle.dk_slack.specs.Wishes.{first_node, is_entering, want}
use Rattle.dk_slack.specs.Unclaimed.{counted_for, source}

-- The wish comes first of all, and its switch in is over. Something of it is left after so many ticks, and before each
-- of them slack comes from the source, where all before it were nobody's or slack.
pub record IsAhead (s : Slack) (ahead : Ahead) : Type 0 where
  pub known : ahead.level < length s.wishes
  pub before : (k : ℕ) → k < ahead.level → first_node k s.wishes ≡ None
  pub first : first_node ahead.level s.wishes ≡ Some ahead.node
  pub entered : is_entering ahead.node s.wishes ≡ false
  pub more : ahead.ticks < want ahead.node s.wishes
  pub lasts : (k : ℕ) → k < ahead.ticks → source (counted_for k None s.unclaimed) s.spares ≡ ahead.source

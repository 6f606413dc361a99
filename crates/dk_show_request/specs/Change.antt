-- What a change is asked of.
use Rattle.std.specs.Prelude.{ℕ, Bool, List}

-- the files of the two configurations, the names of the processes that the change may touch, and whether it is told as a table
pub record ChangeAsk : Type 0 where
  pub old : List ℕ
  pub new : List ℕ
  pub names : List (List ℕ)
  pub as_csv : Bool

-- What the slack of a layout is asked of.
use Rattle.std.specs.Prelude.{ℕ, Bool, List}
use Rattle.dk_show_request.specs.declared.allotments.Allotment.{Allotment}

-- the file of a configuration, allotments of slack to its processes, and whether it is told as a table
pub record SlackAsk : Type 0 where
  pub file : List ℕ
  pub allotments : List Allotment
  pub as_csv : Bool

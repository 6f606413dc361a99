-- What a chain is asked of.
use Rattle.std.specs.Prelude.{ℕ, List}

-- the file of a configuration, and the names of a chain's processes in it
pub record ChainAsk : Type 0 where
  pub file : List ℕ
  pub first : List ℕ
  pub rest : List (List ℕ)

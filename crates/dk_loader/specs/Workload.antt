-- A configuration with the programs of its processes, as contracts see it.
use Rattle.std.specs.Prelude.{ℕ, List}
use Rattle.dk_config.specs.Configuration.{Configuration}

pub record Workload : Type 0 where
  pub config : Configuration
  pub programs : List (List ℕ)

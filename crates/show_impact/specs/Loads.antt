-- A certified configuration with its programs.
use Rattle.std.specs.Prelude.{ℕ, ◌≡◌, ◌≤◌, List, length, All}
use Rattle.dk_config.specs.declared.TheConstants.{MAX_PROGRAM_BYTES}
use Rattle.dk_config.specs.Configuration.{Configuration}

-- each process has a program, none of them too long
pub record HasPrograms (c : Configuration) (programs : List (List ℕ)) : Type 0 where
  pub each : length programs ≡ length c.processes
  pub sizes : All (λ code. length code ≤ MAX_PROGRAM_BYTES) programs

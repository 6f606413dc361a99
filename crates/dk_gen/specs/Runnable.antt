-- When a workload can be run.
use Rattle.std.specs.Prelude.{◌≡◌, ◌≤◌, length, All}
use Rattle.dk_config.specs.Checked.{BreaksNoRule, IsChecked, IsWithinLimits, IsAccepted}
use Rattle.dk_config.specs.declared.TheConstants.{MAX_PROGRAM_BYTES}
use Rattle.dk_certify.specs.declared.certifying.Verdict.TheVariants.{Accepted}
use Rattle.dk_certify.specs.Verdicts.{rows_of, verdict_of}
use Rattle.dk_loader.specs.Workload.{Workload}

-- The configuration is checked and certified, and each process has a program, of at most 65,536 bytes.
pub record IsRunnable (w : Workload) : Type 0 where
  pub unbroken : BreaksNoRule w.config
  pub checked : IsChecked w.config
  pub limits : IsWithinLimits w.config
  pub verdict : verdict_of w.config ≡ Accepted (rows_of w.config)
  pub accepted : IsAccepted w.config
  pub programs : length w.programs ≡ length w.config.processes
  pub sizes : All (λ code. length code ≤ MAX_PROGRAM_BYTES) w.programs

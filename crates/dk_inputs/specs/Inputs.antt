-- What a command has read and tested, and what it is for.
use Rattle.std.specs.Prelude.{ℕ, ◌≡◌, ◌≤◌, ◌<◌, All, length, vec_len}
use Rattle.dk_config.specs.declared.TheConstants.{MAX_PROGRAM_BYTES, MAX_RUN_TICKS}
use Rattle.dk_config.specs.Checked.{BreaksNoRule, IsAccepted, IsChecked, IsWithinLimits}
use Rattle.dk_config.specs.Configuration.{Configuration}
use Rattle.dk_certify.specs.Laws.{migrated}
use Rattle.dk_certify.specs.Verdicts.{rows_of}
use Rattle.dk_loader.specs.Workload.{Workload}
use Rattle.dk_ledger.specs.Heading.{Heading, IsPrintable, heading_of}
use Rattle.dk_asm.specs.declared.TheConstants.{MAX_SOURCE_BYTES}
use Rattle.dk_plan.specs.Base.{AreAsks}
use Rattle.dk_inputs.specs.declared.inputs.Inputs.{Inputs}
use Rattle.dk_inputs.specs.declared.inputs.Inputs.TheVariants as inputs
use Rattle.dk_inputs.specs.Jobs.{Job, run, certificate, ledger, document, source, code, findings, budget, base, state}

-- the header of a configuration's ledgers
abbrev pub heading : Configuration → Heading
heading c = heading_of c (rows_of c)

-- checked, and accepted by certification
pub record IsCertified (c : Configuration) : Type 0 where
  pub checked : IsChecked c
  pub accepted : IsAccepted c

-- The configuration is certified, each process has a program of at most 65,536 bytes, and the header is that of its ledgers.
pub record CanBoot (header : Heading) (w : Workload) : Type 0 where
  pub heads : header ≡ heading w.config
  pub printable : IsPrintable header
  pub certified : IsCertified w.config
  pub limits : IsWithinLimits w.config
  pub programs : length w.programs ≡ length w.config.processes
  pub sizes : All (λ code. length code ≤ MAX_PROGRAM_BYTES) w.programs

-- what is to be written of the inputs
abbrev pub job_of : Inputs → Job
job_of (inputs.Run header loaded ticks output) = run loaded ticks output
job_of (inputs.Certificate header) = certificate header.levels
job_of (inputs.Ledger bytes output) = ledger bytes.items output
job_of (inputs.Document config) = document (migrated config)
job_of (inputs.Source bytes) = source bytes.items
job_of (inputs.Code bytes) = code bytes.items
job_of (inputs.Findings config bytes) = findings config bytes.items
job_of (inputs.Budget config process name) = budget config process name
job_of (inputs.Base lo hi asks) = base lo hi asks
job_of (inputs.State header loaded ticks) = state loaded ticks

-- what was tested of the inputs
abbrev pub AreTested : Inputs → Type 0
AreTested (inputs.Run header loaded ticks output) = CanBoot header loaded × (ticks ≤ MAX_RUN_TICKS)
AreTested (inputs.Certificate header) = IsPrintable header
AreTested (inputs.Ledger bytes output) = Unit {0}
AreTested (inputs.Document config) = BreaksNoRule config
AreTested (inputs.Source bytes) = vec_len bytes ≤ MAX_SOURCE_BYTES
AreTested (inputs.Code bytes) = vec_len bytes ≤ MAX_PROGRAM_BYTES
AreTested (inputs.Findings config bytes) = IsCertified config × IsWithinLimits config
AreTested (inputs.Budget config process name) =
    BreaksNoRule config × IsChecked config × IsWithinLimits config × (process < length config.processes)
AreTested (inputs.Base lo hi asks) = (1 ≤ lo) × (lo ≤ hi) × AreAsks hi asks
AreTested (inputs.State header loaded ticks) = CanBoot header loaded × (ticks ≤ MAX_RUN_TICKS)

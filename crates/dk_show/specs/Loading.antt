-- A certified configuration with its programs, as the files hold them, or the first refusal.
use Rattle.std.specs.Prelude.{ℕ, ◌≡◌, ◌≤◌, false, nat_lt, if◌then◌else◌, length, List, Option, Some, None, Result, Ok, Err, All}
use Rattle.dk_config.specs.declared.TheConstants.{MAX_CONFIG_BYTES, MAX_PROGRAM_BYTES}
use Rattle.dk_config.specs.Configuration.{Configuration}
use Rattle.dk_config.specs.Checked.{BreaksNoRule, IsAccepted, IsChecked, IsWithinLimits}
use Rattle.dk_certify.specs.declared.certifying.Verdict.{Verdict}
use Rattle.dk_certify.specs.declared.certifying.Verdict.TheVariants as verdict
use Rattle.dk_certify.specs.Verdicts.{verdict_of}
use Rattle.dk_loader.specs.declared.fault.LoadFault.{LoadFault}
use Rattle.dk_loader.specs.declared.fault.LoadFault.TheVariants as fault
use Rattle.dk_loader.specs.Programs.{loading}
use Rattle.dk_loader.specs.Reading.{reading}
use Rattle.dk_loader.specs.Workload.{Workload}
use Rattle.dk_show.specs.declared.refusal.Refusal.{Refusal}
use Rattle.dk_show.specs.declared.refusal.Refusal.TheVariants as why
use Rattle.dk_show.specs.declared.status.Status.{Status}
use Rattle.dk_show.specs.Answers.{Files, Says, is_silent}

-- the configuration, where it is certified
abbrev pub certified : Configuration → Verdict → Result Configuration Refusal
certified c (verdict.Accepted rows) = Ok c
certified c (verdict.Fails level needs window) = Err (why.Uncertified level needs window)

abbrev pub certified_in : Result Configuration LoadFault → Result Configuration Refusal
certified_in (Ok c) = certified c (verdict_of c)
certified_in (Err fault.NotToml) = Err why.NotToml
certified_in (Err (fault.Config f)) = Err (why.Rule f)
certified_in (Err _) = Err why.NoMemory

abbrev pub certified_at : Option (List ℕ) → Result Configuration Refusal
certified_at None = Err why.Depot
certified_at (Some bytes) = if nat_lt MAX_CONFIG_BYTES (length bytes) then Err why.LongConfig else certified_in (reading bytes)

-- the first program that is too long, by the number of its process, or a read that failed
abbrev pub refused_programs : LoadFault → Refusal
refused_programs (fault.TooLong p) = why.LongProgram p
refused_programs fault.Depot = why.Depot
refused_programs _ = why.NoMemory

abbrev pub programs_of : Result Workload LoadFault → Result Workload Refusal
programs_of (Ok w) = Ok w
programs_of (Err e) = Err (refused_programs e)

abbrev pub with_programs : Files → Result Configuration Refusal → Result Workload Refusal
with_programs at (Ok c) = programs_of (loading at c)
with_programs at (Err e) = Err e

-- the certified configuration in the file of this name, with the programs of its processes
abbrev pub loaded : Files → List ℕ → Result Workload Refusal
loaded at name = with_programs at (certified_at (at name))

-- An answer is the one that the files come to, but a failed read or want of memory may come in its place.
abbrev pub Loads : {A : Type 0} → Result A Refusal → Result A Refusal → Type 0
Loads (Ok x) outcome = outcome ≡ Ok x
Loads (Err e) outcome = is_silent e ≡ false → outcome ≡ Err e

-- It breaks no rule and is certified, and has a program for each process, none of them too long.
pub record IsCertifiedLoad (w : Workload) : Type 0 where
  pub unbroken : BreaksNoRule w.config
  pub checked : IsChecked w.config
  pub accepted : IsAccepted w.config
  pub limits : IsWithinLimits w.config
  pub programs : length w.programs ≡ length w.config.processes
  pub sizes : All (λ program. length program ≤ MAX_PROGRAM_BYTES) w.programs

-- What is told of something, or the refusal in its place.
abbrev pub IsOf : {X : Type 0} → Result X Refusal → (X → List ℕ → Status → Type 0) → List ℕ → Status → Type 0
IsOf (Ok x) Told text ended = Told x text ended
IsOf (Err e) Told text ended = (is_silent e ≡ false) × Says e text ended

-- what the certified configuration in the file of this name comes to, with its programs
abbrev pub IsOfLoaded : Files → List ℕ → (Workload → List ℕ → Status → Type 0) → List ℕ → Status → Type 0
IsOfLoaded at name Told text ended = IsOf (loaded at name) Told text ended

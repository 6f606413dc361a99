-- What is written for a profile: the source of its program, or all that is wrong with it.
use Rattle.std.specs.Prelude.{ℕ, ◌==◌, Bool, false, if◌then◌else◌, List, length, position, codes, Option}
use Rattle.std.specs.Option.{option_map_or}
use Rattle.std.specs.Str.{bytes_eq}
use Rattle.dk_config.specs.Configuration.{Configuration}
use Rattle.dk_config.specs.declared.rows.ProcessRow.{ProcessRow}
use Rattle.dk_asm.specs.Listing.{listing}
use Rattle.dk_profile.specs.declared.steps.ProfileFault.{ProfileFault}
use Rattle.dk_profile.specs.Faults.{faults_of}
use Rattle.dk_profile.specs.FaultText.{faults_text}
use Rattle.dk_profile.specs.Steps.{steps_of}
use Rattle.dk_times.specs.declared.form.Form.{Form}
use Rattle.dk_times.specs.Whole.{readings_in}
use Rattle.dk_replay.specs.Code.{program_of}

-- the process of this name
abbrev pub process_named : Configuration → List ℕ → Option ℕ
process_named c name = position (λ (row : ProcessRow). bytes_eq row.name name) c.processes

-- all that is wrong with the profile in this form of process p, which has this name
abbrev pub faults_in : Configuration → Form → ℕ → List ℕ → List ℕ → List ProfileFault
faults_in c form p name bytes = faults_of c p (readings_in c form p name bytes)

-- nothing is wrong with it
abbrev pub is_made : Configuration → Form → ℕ → List ℕ → List ℕ → Bool
is_made c form p name bytes = length (faults_in c form p name bytes) == 0

-- the program that does what the profile says
abbrev pub program_for : Configuration → Form → ℕ → List ℕ → List ℕ → List ℕ
program_for c form p name bytes = program_of (steps_of (readings_in c form p name bytes))

abbrev pub text_for : Configuration → Form → ℕ → List ℕ → List ℕ → List ℕ
text_for c form p name bytes =
    if is_made c form p name bytes then listing (program_for c form p name bytes)
    else faults_text c (faults_in c form p name bytes)

-- what is written for the profile in this form of the process of this name
abbrev pub replay_text : Configuration → Form → List ℕ → List ℕ → List ℕ
replay_text c form name bytes =
    option_map_or (λ p. text_for c form p name bytes) (process_named c name) (codes "replay: no such process\n")

-- a source is
abbrev pub replay_made : Configuration → Form → List ℕ → List ℕ → Bool
replay_made c form name bytes = option_map_or (λ p. is_made c form p name bytes) (process_named c name) false

-- The headline: what is written stands in Output, and a run keeps what it promises.
use Rattle.std.specs.Prelude.{ℕ, ◌≡◌, ◌+◌, ◌≢◌, List, Option, IfOk, IfSome, Err}
use Rattle.dk_inputs.specs.declared.refusal.Refusal.TheVariants as why
use Rattle.dk_inputs.specs.declared.status.Status.{Status}
use Rattle.dk_inputs.specs.declared.status.Status.TheVariants as status
use Rattle.dk_command.specs.Output.{IsOutput}
use Rattle.dk_inputs.specs.Jobs.{job_for_words}
use Rattle.dk_command.specs.Promises.{Keeps}
use Rattle.dk_inputs.specs.Reads.{Files}
use Rattle.dk_session.specs.Leaves.{IsSilent}

-- where the files are told, the text and the status stand in Output with the words and the files
abbrev pub StandsInOutput : Option Files → List (List ℕ) → List ℕ → Status → Type 0
StandsInOutput files words text ended = IfSome files (λ at. IsOutput words at text ended)

-- where the files are told and the command is a run that is done: it was received, bounded, by when and granted
abbrev pub WasReceivedBoundedGranted : Option Files → List (List ℕ) → Status → Type 0
WasReceivedBoundedGranted files words ended = IfSome files
    (λ at. ended ≡ status.Done → IfOk (job_for_words words at).found (λ job. IfSome job Keeps))

-- Where the files are told, exactly the bytes were handed out that the command asks for: those of each file that is read,
-- and one more than the limit of a file that is too long.
abbrev pub GivesExactly : Option Files → List (List ℕ) → Status → ℕ → ℕ → Type 0
GivesExactly files words ended old new = IfSome files
    (λ at. (IsSilent ended → ⊥) → new ≡ old + (job_for_words words at).given)

-- where the files are told and each that is asked for is held, no read was of another
abbrev pub StraysNowhere : Option Files → List (List ℕ) → ℕ → ℕ → Type 0
StraysNowhere files words old new = IfSome files (λ at. (job_for_words words at).found ≢ Err why.Depot → new ≡ old)

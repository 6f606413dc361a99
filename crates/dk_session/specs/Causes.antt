-- When each answer comes.
use Rattle.std.specs.Prelude.{◌≡◌, ◌⊎◌, ◌↔◌, List, ℕ, Option, IfSome, Result, Ok, Err}
use Rattle.dk_inputs.specs.declared.refusal.Refusal.{Refusal}
use Rattle.dk_inputs.specs.declared.status.Status.{Status}
use Rattle.dk_inputs.specs.declared.status.Status.TheVariants as status
use Rattle.dk_inputs.specs.Answer.{refusal_status}
use Rattle.dk_command.specs.Output.{SomeFails, IsAnswer}
use Rattle.dk_inputs.specs.Jobs.{Job, job_for_words}
use Rattle.dk_inputs.specs.Reads.{Files}

-- Usage, unless the line couldn't be written
abbrev pub IsUsageOrFailed : Status → Type 0
IsUsageOrFailed ended = (ended ≡ status.Usage) ⊎ ((ended ≡ status.SinkFault) ⊎ (ended ≡ status.NoMemory))

-- this refusal comes first in the order of refusals, or what was read has no text for this reason
abbrev pub IsRefusedFor : Result (Option Job) Refusal → Refusal → Type 0
IsRefusedFor (Ok job) e = SomeFails job e
IsRefusedFor (Err d) e = d ≡ e

-- where the files are told, an answer is this status exactly where the words and the files come to a refusal of this status
abbrev pub IsExactly : Status → Option Files → List (List ℕ) → Status → Type 0
IsExactly s files words ended =
    IfSome files (λ at. IsAnswer ended
    → (ended ≡ s) ↔ ((e : Refusal) × IsRefusedFor (job_for_words words at).found e × (refusal_status e ≡ s)))

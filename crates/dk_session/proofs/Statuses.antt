-- What a status says of the refusal that it comes from.
use Rattle.dk_session.proofs.Names.{◌≡◌, true, Refusal, Status, is_silent, refusal_status, IsAnswer, IsSilent}
use Rattle.dk_inputs.specs.declared.refusal.Refusal.TheVariants as why
use Rattle.dk_inputs.specs.declared.status.Status.TheVariants as status

-- no refusal ends as done
pub never_done : (e : Refusal) → status.Done ≡ refusal_status e → ⊥
never_done why.Depot same = cc
never_done _ same = cc

-- nor as words that are no command
pub never_usage : (e : Refusal) → status.Usage ≡ refusal_status e → ⊥
never_usage why.Depot same = cc
never_usage _ same = cc

-- a refusal without a text has a status without a text
pub silent_status : (e : Refusal) → is_silent e ≡ true → IsSilent (refusal_status e)
silent_status why.Depot silent = tt
silent_status why.NoMemory silent = tt
silent_status _ silent = absurd cc

pub answer_speaks : (s : Status) → IsAnswer s → IsSilent s → ⊥
answer_speaks status.DepotFault answer silent = answer
answer_speaks status.NoMemory answer silent = answer
answer_speaks _ answer silent = silent

use Rattle.dk_recount.proofs.Told.{rem-told, phase-told}
use Rattle.dk_recount.proofs.question_laws.jobs_are_the_pasts.Goals as goal

pub returns : goal.returns
returns c = record { left = rem-told; phase = phase-told }

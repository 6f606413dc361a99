use Rattle.dk_ready.proofs.Moving.{queues-workers, tells-left, tells-phase, tells-ready}
use Rattle.dk_ready.proofs.laws.jobs_are_the_pasts.Goals as goal

pub returns : goal.returns
returns c = record { left = tells-left; phase = tells-phase; ready = tells-ready; queued = queues-workers }

use Rattle.std.proofs.Common.{arith}
use Rattle.dk_when.proofs.Soonest.{soon-enough}
use Rattle.dk_when.proofs.earliest.begins_from.Goals as goal

pub returns-clause-sooner : goal.returns-clause-sooner
returns-clause-sooner c =
    λ f enough. c.least_room.ensures.least f (soon-enough c.args.config.now c.args.process 1 f c.requires.checked c.requires.exists (omega arith) enough)

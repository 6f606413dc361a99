use Rattle.dk_dispatch.proofs.Names.{refl}
use Rattle.dk_dispatch.proofs.dispatcher.Dispatcher.stop.Goals as goal

pub end-requires : goal.end-requires
end-requires g c = record { ends = record { entry = c.args.entry.now; ending = c.requires; next = refl } }

pub returns-clause-steps : goal.returns-clause-steps
returns-clause-steps g c = c.end.ensures.steps c.args.entry.now c.requires

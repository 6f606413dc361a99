use Rattle.dk_dispatch.proofs.Names.{refl, Event, call_entry}
use Rattle.dk_dispatch.proofs.dispatcher.Dispatcher.exit.Goals as goal

pub end-requires : goal.end-requires
end-requires g c = record { ends = record { entry = call_entry c.args.self.now.past Event.Exit; ending = c.requires; next = refl } }

pub returns-clause-steps : goal.returns-clause-steps
returns-clause-steps g c = c.end.ensures.steps (call_entry c.args.self.now.past Event.Exit) c.requires

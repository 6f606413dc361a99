use Rattle.dk_request.proofs.arguments.ticks_in.Goals as goal

pub returns : goal.returns
returns c = c.short_number_in.ensures

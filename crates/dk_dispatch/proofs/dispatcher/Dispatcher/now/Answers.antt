use Rattle.dk_dispatch.proofs.Names.{◌∙◌}
use Rattle.dk_dispatch.proofs.Telling.{tick-told}
use Rattle.dk_dispatch.proofs.dispatcher.Dispatcher.now.Goals as goal

pub returns : goal.returns
returns c = c.now.ensures ∙ tick-told _ _ _ c.self.view_is c.requires c.self.invariant

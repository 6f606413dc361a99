use Rattle.dk_dispatch.proofs.Names.{◌≡◌, held_by, last_locked}
use Rattle.dk_dispatch.proofs.Telling.{at-told}
use Rattle.dk_dispatch.proofs.dispatcher.Dispatcher.held_by.Goals as goal

pub returns : goal.returns
returns c = λ telling.
    at-told _ _ _ c.self.view_is telling c.self.invariant (λ k entries. c.held_by.result ≡ last_locked (held_by c.args.id entries))
    (λ tells. c.held_by.ensures _ _ tells)

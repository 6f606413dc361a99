use Rattle.dk_dispatch.proofs.Names.{◌≡◌, held_by, innermost_left}
use Rattle.dk_dispatch.proofs.Telling.{at-told}
use Rattle.dk_dispatch.proofs.dispatcher.Dispatcher.hold_left.Goals as goal

pub returns : goal.returns
returns c = λ telling.
    at-told _ _ _ c.self.view_is telling c.self.invariant (λ k entries. c.hold_left.result ≡ innermost_left k (held_by c.args.id entries))
    (λ tells. c.hold_left.ensures _ _ tells)

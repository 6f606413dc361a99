use Rattle.dk_mutex.proofs.Names.{◌∙◌, ap, position_from, is_within}
use Rattle.dk_mutex.proofs.Lefts.{innermost-alone}
use Rattle.dk_mutex.proofs.mutexes.Mutexes.held_by.Goals as goal

pub returns-clause-alone : goal.returns-clause-alone
returns-clause-alone c = λ m e.
    c.first_within.ensures
    ∙ ap (position_from (is_within c.args.id c.hold_left.result) 0) c.self.view_is
    ∙ ap (λ most. position_from (is_within c.args.id most) 0 c.args.self.now) c.hold_left.ensures.left
    ∙ innermost-alone c.args.id c.args.self.now c.hold_left.ensures.apart m e

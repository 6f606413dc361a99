use Rattle.dk_mutex.proofs.Names.{◌∙◌, List, ap, sym, Lockable, hold_left}
use Rattle.dk_mutex.proofs.Unheld.{nothing-left}
use Rattle.dk_mutex.proofs.mutexes.Mutexes.hold_left.Goals as goal

pub returns-then-not-may_hold-clause-left : goal.returns-then-not-may_hold-clause-left
returns-then-not-may_hold-clause-left c = sym (nothing-left c.args.id c.args.self.now (c.may_hold.ensures c.if-not-may_hold.true))

pub returns-then-is_of-clause-left : goal.returns-then-is_of-clause-left
returns-then-is_of-clause-left c =
    c.self.invariant.1.left c.args.id (c.is_of.ensures.own c.if-is_of.true) ∙ ap (λ (rows : List Lockable). hold_left c.args.id rows) c.self.view_is

use Rattle.dk_mutex.proofs.Names.{◌∙◌, List, ap, sym, Lockable, holds_within}
use Rattle.dk_mutex.proofs.Fronts.{first-within, none-within}
use Rattle.dk_mutex.proofs.mutexes.Mutexes.holds_within.Goals as goal

pub returns-then-is_of : goal.returns-then-is_of
returns-then-is_of c =
    first-within c.args.id c.args.most c.self.inside.front c.self.inside.rows c.self.invariant.1 (c.is_of.ensures.own c.if-is_of.true)
    ∙ ap (λ (rows : List Lockable). holds_within c.args.id c.args.most rows) c.self.view_is

pub returns-then-not-may_hold : goal.returns-then-not-may_hold
returns-then-not-may_hold c = sym (none-within c.args.id c.args.most c.args.self.now (c.may_hold.ensures c.if-not-may_hold.true))

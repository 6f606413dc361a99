use Rattle.dk_mutex.proofs.Names.{◌∙◌, List, ap, sym, Lockable, effective_level}
use Rattle.dk_mutex.proofs.Unheld.{own-level, runs-there}
use Rattle.dk_mutex.proofs.mutexes.Mutexes.effective_level.Goals as goal

pub returns-then-not-may_hold : goal.returns-then-not-may_hold
returns-then-not-may_hold c =
    sym (own-level c.args.id c.args.own c.args.self.now (c.may_hold.ensures c.if-not-may_hold.true))

pub returns-then-is_of : goal.returns-then-is_of
returns-then-is_of c =
    let rows = c.self.inside.rows in
    let front = c.self.inside.front in
    sym (runs-there rows front.level c.args.id c.args.own rows (λ r h. h) (sym c.self.invariant.1.holder ∙ c.is_of.ensures.own c.if-is_of.true))
    ∙ ap (λ (rows : List Lockable). effective_level c.args.id c.args.own rows) c.self.view_is

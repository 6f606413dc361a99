use Rattle.dk_mutex.proofs.Names.{◌≡◌, ◌∙◌, List, false, subst, sym, list_any, Lockable, is_by}
use Rattle.dk_mutex.proofs.Unheld.{unheld-by}
use Rattle.dk_mutex.proofs.mutexes.Mutexes.may_hold.Goals as goal

pub returns-then-is_held : goal.returns-then-is_held
returns-then-is_held c = λ off.
    subst (λ (rows : List Lockable). list_any (is_by c.args.id) rows ≡ false) c.self.view_is
    (c.self.invariant.2 c.args.id (sym c.may_hold.ensures ∙ off))

pub returns-else-is_held : goal.returns-else-is_held
returns-else-is_held c = λ off.
    subst (λ (rows : List Lockable). list_any (is_by c.args.id) rows ≡ false) c.self.view_is
    (unheld-by c.args.id c.self.inside.rows (sym c.self.invariant.1.held ∙ sym c.is_held.ensures ∙ c.if-is_held.false))

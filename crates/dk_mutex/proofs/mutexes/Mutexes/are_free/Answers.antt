use Rattle.dk_mutex.proofs.Names.{◌≡◌, ◌∙◌, false, List, subst, sym, list_any, not-true, Lockable, is_held}
use Rattle.dk_mutex.proofs.Unheld.{nothing-left, own-level, spent-none, unheld-by}
use Rattle.dk_mutex.proofs.mutexes.Mutexes.are_free.Goals as goal

pub returns-clause-levels : goal.returns-clause-levels
returns-clause-levels c = λ x own free.
    own-level x own c.args.self.now
    (unheld-by x c.args.self.now
    (subst (λ (rows : List Lockable). list_any is_held rows ≡ false) c.self.view_is
    (sym c.self.invariant.1.held ∙ sym c.is_held.ensures ∙ not-true c.is_held.result free)))

pub returns-clause-holds : goal.returns-clause-holds
returns-clause-holds c = λ x free.
    spent-none x c.args.self.now
    (unheld-by x c.args.self.now
    (subst (λ (rows : List Lockable). list_any is_held rows ≡ false) c.self.view_is
    (sym c.self.invariant.1.held ∙ sym c.is_held.ensures ∙ not-true c.is_held.result free)))

pub returns-clause-left : goal.returns-clause-left
returns-clause-left c = λ x free.
    nothing-left x c.args.self.now
    (unheld-by x c.args.self.now
    (subst (λ (rows : List Lockable). list_any is_held rows ≡ false) c.self.view_is
    (sym c.self.invariant.1.held ∙ sym c.is_held.ensures ∙ not-true c.is_held.result free)))

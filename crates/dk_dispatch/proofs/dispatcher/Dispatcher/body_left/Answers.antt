use Rattle.dk_dispatch.proofs.Names.{◌≡◌, true, length, subst, Has, threads, thread_body_left, has_row, told, Dispatched}
use Rattle.dk_dispatch.proofs.Telling.{is-telling, recount-at}
use Rattle.dk_dispatch.proofs.dispatcher.Dispatcher.body_left.Goals as goal

pub returns-clause-told : goal.returns-clause-told
returns-clause-told g c = λ x telling.
    let p = c.self.inside.history.past in
    let d = c.self.inside.tables in
    subst (λ (w : Dispatched). Has (threads w.past.config (told w.past)) x → x.id ≡ c.args.id → has_row w.past.config (length w.past.entries) x ≡ true
    → c.body_left.result ≡ thread_body_left w.past.config (length w.past.entries) (told w.past) x) c.self.view_is
    (λ among id there. c.body_left.ensures.told _ _ _ x (recount-at p.tick p.config p.entries d c.self.invariant (is-telling p d _ c.self.view_is telling c.self.invariant)) among id there)

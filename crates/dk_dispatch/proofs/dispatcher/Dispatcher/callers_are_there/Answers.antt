use Rattle.dk_dispatch.proofs.Names.{subst, CallerIsThere, IsRuled, call_label, Dispatched}
use Rattle.dk_dispatch.proofs.Calling.{calling}
use Rattle.dk_dispatch.proofs.dispatcher.Dispatcher.callers_are_there.Goals as goal

pub returns-clause-there : goal.returns-clause-there
returns-clause-there c = λ x call.
    subst (λ (w : Dispatched). CallerIsThere w.past.config (call_label w.past) w.past.entries x) c.self.view_is
    (c.callers_have_rows.ensures.there _ _ _ _ x (calling x _ _ _ c.self.view_is call c.self.invariant))

pub returns-clause-ruled : goal.returns-clause-ruled
returns-clause-ruled c = λ x call.
    subst (λ (w : Dispatched). IsRuled w.past.config w.past.entries) c.self.view_is
    (calling x _ _ _ c.self.view_is call c.self.invariant).charged.ruled

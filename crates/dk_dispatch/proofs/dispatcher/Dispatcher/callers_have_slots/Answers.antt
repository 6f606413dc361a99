use Rattle.dk_dispatch.proofs.Names.{ℕ, ◌≡◌, Some, inr, refl, subst, Work, thread_of, work_of, call_label, Dispatched}
use Rattle.dk_dispatch.specs.Standing.{slots}
use Rattle.dk_dispatch.proofs.Ticking.{is-ready}
use Rattle.dk_dispatch.proofs.dispatcher.Dispatcher.callers_have_slots.Goals as goal

pub returns : goal.returns
returns c = λ x.
    subst (λ (w : Dispatched). thread_of (call_label w.past) ≡ Some x → work_of (call_label w.past) ≡ Work.Call → (s : ℕ) × (slots w x ≡ Some s)) c.self.view_is
    (λ own work. c.callers_have_rows.ensures.slots _ _ _ _ x (is-ready _ _ _ c.self.view_is c.requires c.self.invariant) (inr refl) own work)

-- Where a change is told with the status of what is done, no other status stands.
use Rattle.dk_show.proofs.Names.{ℕ, ◌≡◌, ◌∙◌, inl, inr, List, sym, Result, Ok, Err, Workload, Refusal, Status, Files, ChangeAsk, EndsBy, IsOfChange, IsOfImpact, impact_end, IsOf, IsOfLoaded, loaded}
use Rattle.dk_show.specs.declared.status.Status.TheVariants as status

by-ends : (Only : Type 0) (s : Status) → EndsBy Only status.Done → EndsBy Only s → s ≡ status.Done
by-ends Only s (inl (only, done)) (inl (also, is)) = is
by-ends Only s (inl (only, done)) (inr (not, is)) = absurd (not only)
by-ends Only s (inr (not, refused)) two = let bad = refused in cc

to-ends : (a : ChangeAsk) (r : Result Workload Refusal) (old : Workload) (x y : List ℕ) (s : Status)
    → IsOf r (IsOfChange a old) x status.Done → IsOf r (IsOfChange a old) y s → s ≡ status.Done
to-ends a (Ok new) old x y s one two = by-ends _ s one.ends two.ends
to-ends a (Err e) old x y s one two = two.1.1 ∙ sym one.1.1

from-ends : (a : ChangeAsk) (r : Result Workload Refusal) (at : Files) (x y : List ℕ) (s : Status)
    → IsOf r (λ w. IsOfLoaded at a.new (IsOfChange a w)) x status.Done → IsOf r (λ w. IsOfLoaded at a.new (IsOfChange a w)) y s → s ≡ status.Done
from-ends a (Ok old) at x y s one two = to-ends a (loaded at a.new) old x y s one two
from-ends a (Err e) at x y s one two = two.1.1 ∙ sym one.1.1

pub impact_ends : (at : Files) (a : ChangeAsk) (x y : List ℕ) (s : Status) → IsOfImpact at a x status.Done → IsOfImpact at a y s → s ≡ status.Done
impact_ends at a x y s one two = from-ends a (loaded at a.old) at x y s one two

-- Where it is told with the status of what is done how long mutexes were held, no other status stands.
use Rattle.dk_show.proofs.Names.{ℕ, ◌≡◌, ◌∙◌, ◌⊎◌, inl, inr, List, sym, subst, Configuration, Journal, one_text, IsOwnHeading, Status, IsHeldUnder, IsOfHolds, IsOfOwnHolds}
use Rattle.dk_show.specs.declared.status.Status.TheVariants as status

pub holds_ends : (bytes x y : List ℕ) (s : Status) → IsOfHolds bytes x status.Done → IsOfHolds bytes y s → s ≡ status.Done
holds_ends bytes x y s (inl wrong) other = let bad = wrong.says.1 in cc
holds_ends bytes x y s (inr one) (inl wrong) = absurd (wrong.none one.ledger one.readable one.bytes_are)
holds_ends bytes x y s (inr one) (inr two) = two.told.1

under_ends : (c : Configuration) (j k : Journal) (x y : List ℕ) (s : Status) → j ≡ k → IsHeldUnder c j x status.Done → IsHeldUnder c k y s → s ≡ status.Done
under_ends c j k x y s same (inl a) (inl b) = b.told.1
under_ends c j k x y s same (inl a) (inr b) = absurd (b.other (subst (λ (l : Journal). IsOwnHeading c l.heading) same a.own))
under_ends c j k x y s same (inr a) other = let bad = a.says.1 in cc

pub own_ends : (c : Configuration) (bytes x y : List ℕ) (s : Status) → IsOfOwnHolds c bytes x status.Done → IsOfOwnHolds c bytes y s → s ≡ status.Done
own_ends c bytes x y s (inl wrong) other = let bad = wrong.says.1 in cc
own_ends c bytes x y s (inr one) (inl wrong) = absurd (wrong.none one.ledger one.readable one.bytes_are)
own_ends c bytes x y s (inr one) (inr two) =
    under_ends c one.ledger two.ledger x y s (one_text one.ledger two.ledger one.readable two.readable (one.bytes_are ∙ sym two.bytes_are)) one.told two.told

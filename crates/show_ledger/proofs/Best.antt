-- What is found as the most extreme of some holds.
use Rattle.std.proofs.Common.{ℕ, ◌≡◌, ◌∙◌, ◌++◌, [], ◌∷◌, List, refl, sym, ap, subst, arith, append_assoc}
use Rattle.std.specs.Prelude.{Bool, true, false, Some, None, All, nat_lt, if◌then◌else◌}
use Rattle.std.proofs.lemmas.Bool.{lt-ltb, ltb-true, ltb-false}
use Rattle.std.proofs.lemmas.List.{append-nil}
use Rattle.std.proofs.lemmas.List.Elements.{All-append, All-cons, All-nil, All-push, All-weaker}
use Rattle.show_ledger.specs.declared.extremes.Extreme.{Extreme}
use Rattle.show_ledger.specs.declared.extremes.Extreme.TheVariants as extreme
use Rattle.show_ledger.specs.declared.measuring.MeasuredHold.{MeasuredHold}
use Rattle.show_ledger.specs.Extremes.{beats, better, extreme_from, extreme_hold, ticks_of}
use Rattle.show_ledger.specs.Laws.{IsExtreme}

lt_on : (p q r : ℕ) → nat_lt p q ≡ true → nat_lt q r ≡ true → nat_lt p r ≡ true
lt_on p q r one two =
    let low = ltb-true p q one in
    let high = ltb-true q r two in
    lt-ltb p r (omega (arith, low, high))

lt_over : (p q r : ℕ) → nat_lt p q ≡ true → nat_lt p r ≡ false → nat_lt r q ≡ true
lt_over p q r one two =
    let low = ltb-true p q one in
    let high = ltb-false p r two in
    lt-ltb r q (omega (arith, low, high))

lt_under : (p q r : ℕ) → nat_lt p q ≡ true → nat_lt r q ≡ false → nat_lt p r ≡ true
lt_under p q r one two =
    let low = ltb-true p q one in
    let high = ltb-false r q two in
    lt-ltb p r (omega (arith, low, high))

-- more extreme than one that is more extreme than a third
beats_third : (x : Extreme) (a b c : MeasuredHold) → beats x a b ≡ true → beats x b c ≡ true → beats x a c ≡ true
beats_third extreme.Longest a b c one two = lt_on (ticks_of c) (ticks_of b) (ticks_of a) two one
beats_third extreme.Shortest a b c one two = lt_on (ticks_of a) (ticks_of b) (ticks_of c) one two
beats_third extreme.MostOwn a b c one two = lt_on c.own b.own a.own two one

-- more extreme than one than which a third isn't more extreme
beats_kept : (x : Extreme) (a b c : MeasuredHold) → beats x a b ≡ true → beats x c b ≡ false → beats x a c ≡ true
beats_kept extreme.Longest a b c one two = lt_over (ticks_of b) (ticks_of a) (ticks_of c) one two
beats_kept extreme.Shortest a b c one two = lt_under (ticks_of a) (ticks_of b) (ticks_of c) one two
beats_kept extreme.MostOwn a b c one two = lt_over b.own a.own c.own one two

-- one more hold is behind the best so far, or it is the best
one_more : (x : Extreme) (before : List MeasuredHold) (best : MeasuredHold) (after : List MeasuredHold) (e : MeasuredHold) (rest : List MeasuredHold) (h : MeasuredHold) (v : Bool)
    → beats x e best ≡ v → All (λ b. beats x best b ≡ true) before → All (λ a. beats x a best ≡ false) after
    → (All (λ b. beats x e b ≡ true) (before ++ best ∷ after) → extreme_from x (Some e) rest ≡ Some h
    → IsExtreme x (((before ++ best ∷ after) ++ e ∷ []) ++ rest) h)
    → (All (λ a. beats x a best ≡ false) (after ++ e ∷ []) → extreme_from x (Some best) rest ≡ Some h
    → IsExtreme x ((before ++ best ∷ (after ++ e ∷ [])) ++ rest) h)
    → extreme_from x (Some (if v then e else best)) rest ≡ Some h → IsExtreme x ((before ++ best ∷ after) ++ e ∷ rest) h
one_more x before best after e rest h true beaten first most better_one kept_one found =
    let front = All-weaker (λ b. beats x best b ≡ true) (λ b. beats x e b ≡ true) (λ b less. beats_third x e best b beaten less) before first in
    let back = All-weaker (λ a. beats x a best ≡ false) (λ a. beats x e a ≡ true) (λ a less. beats_kept x e best a beaten less) after most in
    let earlier = All-append (λ b. beats x e b ≡ true) before (best ∷ after) front (All-cons (λ b. beats x e b ≡ true) best after beaten back) in
    subst (λ (l : List MeasuredHold). IsExtreme x l h) (append_assoc (before ++ best ∷ after) (e ∷ []) rest) (better_one earlier found)
one_more x before best after e rest h false kept first most better_one kept_one found =
    let later = All-push (λ a. beats x a best ≡ false) after e most kept in
    let parts = ap (λ (l : List MeasuredHold). l ++ rest) (sym (append_assoc before (best ∷ after) (e ∷ []))) ∙ append_assoc (before ++ best ∷ after) (e ∷ []) rest in
    subst (λ (l : List MeasuredHold). IsExtreme x l h) parts (kept_one later found)

-- the one so far is the extreme one of those before, so the one behind the others is that of all
go : (x : Extreme) (before : List MeasuredHold) (best : MeasuredHold) (after rest : List MeasuredHold)
    → All (λ b. beats x best b ≡ true) before → All (λ a. beats x a best ≡ false) after
    → (h : MeasuredHold) → extreme_from x (Some best) rest ≡ Some h → IsExtreme x ((before ++ best ∷ after) ++ rest) h
go x before best after [] first most h is =
    let same : best ≡ h = cc in
    subst (λ (z : MeasuredHold). IsExtreme x ((before ++ best ∷ after) ++ []) z) same
    (record { before = before; after = after; parts = append-nil (before ++ best ∷ after); first = first; most = most })
go x before best after (e ∷ rest) first most h is =
    one_more x before best after e rest h (beats x e best) refl first most
    (λ earlier found. go x (before ++ best ∷ after) e [] rest earlier (All-nil (λ a. beats x a e ≡ false)) h found)
    (λ later found. go x before best (after ++ e ∷ []) rest first later h found) is

-- there is one where there is a hold
some_left : (x : Extreme) (best : MeasuredHold) (rest : List MeasuredHold) → extreme_from x (Some best) rest ≡ None → ⊥
some_left x best [] is = cc
some_left x best (e ∷ rest) is = some_left x (better x (Some best) e) rest is

pub extreme_is : (x : Extreme) (hs : List MeasuredHold) (h : MeasuredHold) → extreme_hold x hs ≡ Some h → IsExtreme x hs h
extreme_is x [] h is = absurd (cc)
extreme_is x (e ∷ hs) h is = go x [] e [] hs (All-nil (λ b. beats x e b ≡ true)) (All-nil (λ a. beats x a e ≡ false)) h is

pub extreme_none : (x : Extreme) (hs : List MeasuredHold) → extreme_hold x hs ≡ None → hs ≡ []
extreme_none x [] is = refl
extreme_none x (e ∷ hs) is = absurd (some_left x e hs is)

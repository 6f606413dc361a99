-- The front of the mutexes that are held, at the start and after a tick.
use Rattle.dk_mutex.proofs.Names.{arith, ◌≡◌, ◌∙◌, ◌-◌, ◌||◌, inl, inr, Bool, true, false, leb, ℕ, List, [], ◌∷◌, map, Option, Some, None, refl, ap, sym, option_map, list_any, option_map_or, cases_Bool, nat_tests, ThreadId, is_same, same-id, same-self, Front, Holder, Lockable, ceiling_of, holder_left, is_by, is_held, is_holder, is_holder_within, joined, least, left_of, lowered, spent, first_holder, hold_left, holds_within, is_holder_at, IsFrontOf}
use Rattle.dk_mutex.proofs.Locking.{at-level}
use Rattle.dk_mutex.proofs.Unheld.{held-spent, no-left, nobody-at}

pub still-by : (y x : ThreadId) (o : Option Holder) → is_holder y (lowered x o) ≡ is_holder y o
still-by y x o = grind (arith, nat_tests)

pub same-least : (y x : ThreadId) (rows : List Lockable) → least (map (ceiling_of y) (map (spent x) rows)) ≡ least (map (ceiling_of y) rows)
same-least y x [] = refl
same-least y x (row ∷ rows) = grind (arith, nat_tests, still-by, same-least y x rows)

same-runs : (x : ThreadId) (all : List Lockable) (level : ℕ) (o : Option Holder) → is_holder_at (map (spent x) all) level (lowered x o) ≡ is_holder_at all level o
same-runs x all level o = grind (arith, nat_tests, same-least)

same-name : (x : ThreadId) (o : Option Holder) → option_map (λ (h : Holder). h.thread) (lowered x o) ≡ option_map (λ (h : Holder). h.thread) o
same-name x o = grind (arith, nat_tests)

pub same-first : (x : ThreadId) (all : List Lockable) (level : ℕ) (rows : List Lockable) → first_holder (map (spent x) all) level (map (spent x) rows) ≡ first_holder all level rows
same-first x all level [] = refl
same-first x all level (row ∷ rows) = grind (arith, nat_tests, same-runs, same-name, same-first x all level rows)

joined-less : (a b : Option ℕ) → joined (option_map (λ n. n - 1) a) (option_map (λ n. n - 1) b) ≡ option_map (λ n. n - 1) (joined a b)
joined-less a b = grind (arith, nat_tests)

left-own : (x : ThreadId) (o : Option Holder) → holder_left x (lowered x o) ≡ option_map (λ n. n - 1) (holder_left x o)
left-own x o = grind (arith, nat_tests)

least-own : (x : ThreadId) (rows : List Lockable) → least (map (left_of x) (map (spent x) rows)) ≡ option_map (λ n. n - 1) (least (map (left_of x) rows))
least-own x [] = refl
least-own x (row ∷ rows) = grind (arith, nat_tests, left-own, joined-less, least-own x rows)

-- a tick of the thread takes one from what it has left
pub hold-own : (x : ThreadId) (rows : List Lockable) → hold_left x (map (spent x) rows) ≡ hold_left x rows - 1
hold-own x rows = ap (λ o. option_map_or (λ n. n) o 0) (least-own x rows) ∙ go (least (map (left_of x) rows))
  where
    go : (o : Option ℕ) → option_map_or (λ n. n) (option_map (λ n. n - 1) o) 0 ≡ option_map_or (λ n. n) o 0 - 1
    go None = refl
    go (Some n) = refl

left-other : (y x : ThreadId) → is_same x y ≡ false → (o : Option Holder) → holder_left y (lowered x o) ≡ holder_left y o
left-other y x apart o = grind (arith, nat_tests, same-id, same-self)

-- and nothing from what another has
pub hold-other : (y x : ThreadId) → is_same x y ≡ false → (rows : List Lockable) → hold_left y (map (spent x) rows) ≡ hold_left y rows
hold-other y x apart rows = ap (λ o. option_map_or (λ n. n) o 0) (go rows)
  where
    go : (rows : List Lockable) → least (map (left_of y) (map (spent x) rows)) ≡ least (map (left_of y) rows)
    go [] = refl
    go (row ∷ rows) =
        ap (λ o. joined o (least (map (left_of y) (map (spent x) rows)))) (left-other y x apart row.holder)
        ∙ ap (joined (left_of y row)) (go rows)

-- a tick moves no holder
pub front-spent : (x : ThreadId) (front next : Front) (rows : List Lockable) → next ≡ record front { left = next.left }
    → ((y : ThreadId) → front.holder ≡ Some y → next.left ≡ hold_left y (map (spent x) rows))
    → IsFrontOf front rows → IsFrontOf next (map (spent x) rows)
front-spent x front next rows is left was = grind (arith, nat_tests, held-spent, same-first)

-- Who runs first holds a mutex for so long only where what it has left of its innermost isn't more.

pub within-one : (x : ThreadId) (most : ℕ) (o : Option Holder) → is_holder_within x most o ≡ option_map_or (λ n. leb n most) (holder_left x o) false
within-one x most o = grind (arith, nat_tests)

within-joined : (most : ℕ) (a b : Option ℕ)
    → (option_map_or (λ n. leb n most) a false || option_map_or (λ n. leb n most) b false) ≡ option_map_or (λ n. leb n most) (joined a b) false
within-joined most None b = refl
within-joined most (Some a) None = or-false (leb a most)
  where
    or-false : (b : Bool) → (b || false) ≡ b
    or-false true = refl
    or-false false = refl
within-joined most (Some a) (Some b) = grind (arith, nat_tests)

within-least : (x : ThreadId) (most : ℕ) (rows : List Lockable) → holds_within x most rows ≡ option_map_or (λ n. leb n most) (least (map (left_of x) rows)) false
within-least x most [] = refl
within-least x most (row ∷ rows) = grind (arith, nat_tests, within-one, within-joined, within-least x most rows)

-- who has nothing left holds nothing
unheld-left : (x : ThreadId) (rows : List Lockable) → least (map (left_of x) rows) ≡ None → least (map (ceiling_of x) rows) ≡ None
unheld-left x [] none = refl
unheld-left x (row ∷ rows) none = go (unheld-left x rows) row.holder refl (least (map (left_of x) rows)) refl
  where
    go : (least (map (left_of x) rows) ≡ None → least (map (ceiling_of x) rows) ≡ None)
        → (o : Option Holder) → row.holder ≡ o → (p : Option ℕ) → least (map (left_of x) rows) ≡ p → least (map (ceiling_of x) (row ∷ rows)) ≡ None
    go later None at p is = rw at (later (rw at at none))
    go later (Some h) at p is = elim (cases_Bool (is_same x h.thread)) [
      | inr other ↦ grind (arith, nat_tests)
      | inl same ↦ grind (arith, nat_tests)
    ]
      where
        some-least : (n : ℕ) (p : Option ℕ) → joined (Some n) p ≡ None → ⊥
        some-least n None e = cc
        some-least n (Some m) e = cc

pub first-within : (x : ThreadId) (most : ℕ) (front : Front) (rows : List Lockable) → IsFrontOf front rows → front.holder ≡ Some x
    → leb front.left most ≡ holds_within x most rows
first-within x most front rows was is = go (least (map (left_of x) rows)) refl
  where
    go : (o : Option ℕ) → least (map (left_of x) rows) ≡ o → leb front.left most ≡ holds_within x most rows
    go None at =
        let none = unheld-left x rows at in
        let some = at-level x rows front was is in
        absurd (cc)
    go (Some n) at =
        let left : front.left ≡ n = was.left x is ∙ ap (λ o. option_map_or (λ n. n) o 0) at in
        ap (λ n. leb n most) left ∙ ap (λ o. option_map_or (λ n. leb n most) o false) (sym at) ∙ sym (within-least x most rows)

-- who holds nothing holds nothing for so long
pub none-within : (x : ThreadId) (most : ℕ) (rows : List Lockable) → list_any (is_by x) rows ≡ false → holds_within x most rows ≡ false
none-within x most rows none = within-least x most rows ∙ ap (λ o. option_map_or (λ n. leb n most) o false) (no-left x rows none)

-- nobody holds anything
pub front-none : (front : Front) (rows : List Lockable) → front.holder ≡ None → list_any is_held rows ≡ false → IsFrontOf front rows
front-none front rows holder none = grind (arith, nat_tests, nobody-at)

-- Rows with an id of their own each.
use Rattle.dk_trace.proofs.Names.{ℕ, zero, suc, ◌≡◌, ◌+◌, ◌<◌, ◌≤◌, inl, inr, List, [], ◌∷◌, ◌++◌, length, refl, sym, ap, ◌∙◌, subst, arith, sum_by, flat_map, map, cases_lt, sum_by-cons, numbers, Entry, Thread, after_entry, Has, nat_tests}
use Rattle.dk_trace.proofs.Members.{has-append, has-flat_from, sum_by-zero}

-- no two rows have the same id
abbrev pub Distinct : List Thread → Type 0
Distinct [] = Unit {0}
Distinct (x ∷ xs) = ((y : Thread) → Has xs y → x.id ≡ y.id → ⊥) × Distinct xs

pub same-row : (xs : List Thread) (x y : Thread) → Distinct xs → Has xs x → Has xs y → x.id ≡ y.id → x ≡ y
same-row [] x y h a b e = absurd a
same-row (z ∷ xs) x y h (inl a) (inl b) e = sym a ∙ b
same-row (z ∷ xs) x y h (inl a) (inr b) e = absurd (h.0 y b (ap (λ w. w.id) a ∙ e))
same-row (z ∷ xs) x y h (inr a) (inl b) e = absurd (h.0 x a (ap (λ w. w.id) b ∙ sym e))
same-row (z ∷ xs) x y h (inr a) (inr b) e = same-row xs x y h.1 a b e

-- where only one row counts, the sum is no more than what one row counts
pub sum-one : (f : Thread → ℕ) (xs : List Thread) (most : ℕ) → Distinct xs
    → ((x : Thread) → Has xs x → f x ≤ most)
    → ((x y : Thread) → Has xs x → Has xs y → 0 < f x → 0 < f y → x.id ≡ y.id)
    → sum_by f xs ≤ most
sum-one f [] most h le one = omega arith
sum-one f (x ∷ xs) most h le one =
    elim (cases_lt 0 (f x)) [
      | inl counts ↦
          let none : sum_by f xs ≡ 0 =
          sum_by-zero f xs (λ y there. elim (cases_lt 0 (f y)) [
            | inl too ↦ absurd (h.0 y there (one x y (inl refl) (inr there) counts too))
            | inr other ↦ omega arith
          ]) in
          let here = le x (inl refl) in
          rw (sum_by-cons f x xs) (omega arith)
      | inr other ↦
          let rest = sum-one f xs most h.1 (λ y there. le y (inr there)) (λ y z there elsewhere. one y z (inr there) (inr elsewhere)) in
          rw (sum_by-cons f x xs) (omega arith)
    ]

pub Distinct-append : (xs ys : List Thread) → Distinct xs → Distinct ys
    → ((x y : Thread) → Has xs x → Has ys y → x.id ≡ y.id → ⊥) → Distinct (xs ++ ys)
Distinct-append [] ys a b apart = b
Distinct-append (z ∷ xs) ys a b apart = (
  λ y h e. elim (has-append xs ys y h) [ inl here ↦ a.0 y here e | inr there ↦ apart z y (inl refl) there e ],
  Distinct-append xs ys a.1 b (λ x y here there. apart x y (inr here) there),
)

-- the rows of the families of different processes
pub Distinct-flat : (f : ℕ → List Thread) (low n : ℕ)
    → ((p : ℕ) → low ≤ p → p < low + n → Distinct (f p))
    → ((p : ℕ) (x : Thread) → low ≤ p → p < low + n → Has (f p) x → x.id.process ≡ p)
    → Distinct (flat_map f (numbers low n))
Distinct-flat f low zero each own = tt
Distinct-flat f low (suc n) each own =
    Distinct-append (f low) (flat_map f (numbers (suc low) n)) (each low (omega arith) (omega arith))
    (Distinct-flat f (suc low) n (λ p a b. each p (omega arith) (omega arith)) (λ p x a b. own p x (omega arith) (omega arith)))
    (λ x y here there same.
    let r = has-flat_from f (suc low) n y there in
    let one : x.id.process ≡ low = own low x (omega arith) (omega arith) here in
    let two : y.id.process ≡ r.0 = own r.0 y (omega (arith, r.1)) (omega (arith, r.2)) r.3 in
    let equal : x.id.process ≡ y.id.process = ap (λ i. i.process) same in
    let clash : low ≡ r.0 = sym one ∙ equal ∙ two in
    absurd (omega (arith, r.1, clash)))

-- the rows of process p from serial k on
abbrev pub Numbered : ℕ → ℕ → List Thread → Type 0
Numbered p k [] = Unit {0}
Numbered p k (x ∷ xs) = (x.id ≡ record { process = p; serial = k }) × Numbered p (suc k) xs

pub Numbered-serial : (p k : ℕ) (xs : List Thread) (x : Thread) → Numbered p k xs → Has xs x
    → (k ≤ x.id.serial) × (x.id.serial < k + length xs) × (x.id.process ≡ p)
Numbered-serial p k [] x h a = absurd a
Numbered-serial p k (z ∷ xs) x h (inl a) = grind (arith, nat_tests)
Numbered-serial p k (z ∷ xs) x h (inr a) = grind (arith, nat_tests, Numbered-serial p (suc k) xs x h.1 a)

pub Numbered-Distinct : (p k : ℕ) (xs : List Thread) → Numbered p k xs → Distinct xs
Numbered-Distinct p k [] h = tt
Numbered-Distinct p k (x ∷ xs) h = (
  λ y there same.
      let r = Numbered-serial p (suc k) xs y h.1 there in
      let one : x.id.serial ≡ k = ap (λ i. i.serial) h.0 in
      let two : x.id.serial ≡ y.id.serial = ap (λ i. i.serial) same in
      absurd (omega (arith, r.0)),
  Numbered-Distinct p (suc k) xs h.1,
)

pub Numbered-after : (p k : ℕ) (e : Entry) (tick : ℕ) (xs : List Thread) → Numbered p k xs → Numbered p k (map (after_entry e tick) xs)
Numbered-after p k e tick [] h = tt
Numbered-after p k e tick (x ∷ xs) h = (h.0, Numbered-after p (suc k) e tick xs h.1)

pub Numbered-more : (p k : ℕ) (xs ys : List Thread) → Numbered p k xs → Numbered p (k + length xs) ys → Numbered p k (xs ++ ys)
Numbered-more p k [] ys a b = let e : k + 0 ≡ k = omega arith in subst (λ m. Numbered p m ys) e b
Numbered-more p k (x ∷ xs) ys a b =
    let e : k + length (x ∷ xs) ≡ suc k + length xs = omega arith in
    (a.0, Numbered-more p (suc k) xs ys a.1 (subst (λ m. Numbered p m ys) e b))

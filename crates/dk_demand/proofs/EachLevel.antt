-- Levels that are changed one after the other, and all at once.
use Rattle.dk_demand.proofs.Names.{ℕ, zero, suc, ◌≡◌, ◌+◌, ◌<◌, ◌&&◌, inl, inr, true, false, cond, eqb, leb, ltb, List, [], ◌∷◌, length, get_or, refl, sym, ap, ◌∙◌, arith, slice_index, cases_Bool, nat_tests, Configuration, numbers, below, by_level, at_level, set_to, each_level}
use Rattle.dk_demand.proofs.Changing.{is-by_level}

-- g of each of the levels, one after the other
abbrev pub one_by_one : (ℕ → ℕ → ℕ) → List ℕ → List ℕ → List ℕ
one_by_one g [] ns = ns
one_by_one g (j ∷ js) ns = one_by_one g js (by_level (at_level j (g j)) ns)

-- g at the levels from one on, so many of them
abbrev within : ℕ → ℕ → (ℕ → ℕ → ℕ) → ℕ → ℕ → ℕ
within low n g j m = cond (leb low j && ltb j (low + n)) (g j m) m

pub by-same : (f g : ℕ → ℕ → ℕ) (ns : List ℕ) → ((j m : ℕ) → f j m ≡ g j m) → by_level f ns ≡ by_level g ns
by-same f g [] same = refl
by-same f g (n ∷ ns) same = rw (same 0 n, by-same (λ j. f (suc j)) (λ j. g (suc j)) ns (λ j m. same (suc j) m)) refl

pub by-twice : (f g h : ℕ → ℕ → ℕ) (ns : List ℕ) → ((j m : ℕ) → f j (g j m) ≡ h j m) → by_level f (by_level g ns) ≡ by_level h ns
by-twice f g h [] same = refl
by-twice f g h (n ∷ ns) same = rw (same 0 n, by-twice (λ j. f (suc j)) (λ j. g (suc j)) (λ j. h (suc j)) ns (λ j m. same (suc j) m)) refl

pub by-nothing : (f : ℕ → ℕ → ℕ) (ns : List ℕ) → ((j m : ℕ) → f j m ≡ m) → by_level f ns ≡ ns
by-nothing f [] same = refl
by-nothing f (n ∷ ns) same = rw (same 0 n, by-nothing (λ j. f (suc j)) ns (λ j m. same (suc j) m)) refl

all-within : (g : ℕ → ℕ → ℕ) (low n : ℕ) (ns : List ℕ) → one_by_one g (numbers low n) ns ≡ by_level (within low n g) ns
all-within g low zero ns = sym (by-nothing (within low 0 g) ns (λ j m. ap (λ b. cond b (g j m) m) (none j)))
  where
    none : (j : ℕ) → (leb low j && ltb j (low + 0)) ≡ false
    none j = grind (arith, nat_tests)
all-within g low (suc n) ns =
    all-within g (suc low) n (by_level (at_level low (g low)) ns)
    ∙ by-twice (within (suc low) n g) (at_level low (g low)) (within low (suc n) g) ns step
  where
    step : (j m : ℕ) → within (suc low) n g j (at_level low (g low) j m) ≡ within low (suc n) g j m
    step j m =
        elim (cases_Bool (eqb j low)) [
          | inl here ↦
              let same : j ≡ low = grind (arith, nat_tests) in
              let off : (leb (suc low) j && ltb j (suc low + n)) ≡ false = grind (arith, nat_tests) in
              let on : (leb low j && ltb j (low + suc n)) ≡ true = grind (arith, nat_tests) in
              rw (off, on, here) (ap (λ i. g i m) (sym same))
          | inr apart ↦
              let alike : (leb (suc low) j && ltb j (suc low + n)) ≡ (leb low j && ltb j (low + suc n)) = grind (arith, nat_tests) in
              rw (alike, apart) refl
        ]

-- where g is right at each level it turns one list by levels into the other
pub each-changed : (c : Configuration) (g : ℕ → ℕ → ℕ) (old new : ℕ → ℕ)
    → ((f : ℕ → ℕ → ℕ) → ((j : ℕ) → j < length c.levels → f j (old j) ≡ new j) → by_level f (each_level c old) ≡ each_level c new)
    → ((j : ℕ) → j < length c.levels → g j (old j) ≡ new j) → one_by_one g (below (length c.levels)) (each_level c old) ≡ each_level c new
each-changed c g old new changed right = grind (arith, nat_tests, all-within)

-- a cell that is set to what it has
pub set-same : (ns : List ℕ) (k : ℕ) → by_level (at_level k (set_to (slice_index ns k))) ns ≡ ns
set-same ns k =
    sym (is-by_level (at_level k (set_to (slice_index ns k))) ns ns refl (λ j inside.
    elim (cases_Bool (eqb j k)) [
      | inl here ↦
          let same : k ≡ j = grind (arith, nat_tests) in
          ap (λ i. get_or ns i 0) (sym same) ∙ sym (ap (λ b. cond b (get_or ns k 0) (get_or ns j 0)) here)
      | inr apart ↦ sym (ap (λ b. cond b (get_or ns k 0) (get_or ns j 0)) apart)
    ]))

-- The shares to come of a process are taken off level by level.
use Rattle.dk_dispatch.proofs.Names.{◌≡◌, ◌<◌, ◌≤◌, ◌+◌, ◌-◌, ◌∙◌, inl, inr, true, false, eqb, ltb, ℕ, List, length, get_or, arith, refl, ap, sym, if◌then◌else◌, cases_Bool, nat_tests, by_level, at_level, less, get_or-by_level, by-twice, by-same, by-nothing}

-- f taken off at the levels before k
abbrev pub less_until : (ℕ → ℕ) → ℕ → ℕ → ℕ → ℕ
less_until f k j n = if ltb j k then n - f j else n

next-lost : (f : ℕ → ℕ) (k j n : ℕ) → at_level k (less (f k)) j (less_until f k j n) ≡ less_until f (k + 1) j n
next-lost f k j n =
    elim (cases_Bool (eqb j k)) [
      | inl here ↦
          let same : j ≡ k = grind (arith, nat_tests) in
          let off : ltb j k ≡ false = grind (arith, nat_tests) in
          let on : ltb j (k + 1) ≡ true = grind (arith, nat_tests) in
          rw (here, off, on) (ap (λ i. n - f i) (sym same))
      | inr apart ↦
          elim (cases_Bool (ltb j k)) [
            | inl low ↦ let on : ltb j (k + 1) ≡ true = grind (arith, nat_tests) in rw (apart, low, on) refl
            | inr high ↦ let off : ltb j (k + 1) ≡ false = grind (arith, nat_tests) in rw (apart, high, off) refl
          ]
    ]

pub lost-more : (f : ℕ → ℕ) (k : ℕ) (ns : List ℕ) → by_level (at_level k (less (f k))) (by_level (less_until f k) ns) ≡ by_level (less_until f (k + 1)) ns
lost-more f k ns = by-twice (at_level k (less (f k))) (less_until f k) (less_until f (k + 1)) ns (next-lost f k)

pub lost-none : (f : ℕ → ℕ) (ns : List ℕ) → by_level (less_until f 0) ns ≡ ns
lost-none f ns = by-nothing (less_until f 0) ns (λ j n h. let off : ltb j 0 ≡ false = grind (arith, nat_tests) in rw off refl)

pub lost-all : (f : ℕ → ℕ) (k : ℕ) (ns : List ℕ) → length ns ≤ k → by_level (less_until f k) ns ≡ by_level (λ j n. n - f j) ns
lost-all f k ns all = by-same (less_until f k) (λ j n. n - f j) ns (λ j n h. let on : ltb j k ≡ true = grind (arith, nat_tests) in rw on refl)

pub unlost-at : (f : ℕ → ℕ) (k : ℕ) (ns : List ℕ) → k < length ns → get_or (by_level (less_until f k) ns) k 0 ≡ get_or ns k 0
unlost-at f k ns h = let off : ltb k k ≡ false = grind (arith, nat_tests) in get_or-by_level (less_until f k) ns k h ∙ rw off refl

-- Lists with an item for each level, changed one level at a time.
use Rattle.dk_recount.proofs.Names.{◌≡◌, ◌<◌, ◌+◌, ◌-◌, inl, inr, false, eqb, ltb, ℕ, suc, List, [], ◌∷◌, length, get_or, arith, refl, sym, cases_Bool, get_or_past, nat_tests, ThreadId, Lockable, left_up_to, by_level, at_level, less, length-by_level, get_or-by_level, unblocked}
pub use Rattle.dk_demand.proofs.EachLevel.{by-twice}

pub by-same : (f g : ℕ → ℕ → ℕ) (ns : List ℕ) → ((j n : ℕ) → j < length ns → f j n ≡ g j n) → by_level f ns ≡ by_level g ns
by-same f g [] same = refl
by-same f g (n ∷ ns) same = rw (same 0 n (omega arith), by-same (λ j. f (suc j)) (λ j. g (suc j)) ns (λ j m h. same (suc j) m (omega arith))) refl

pub by-nothing : (f : ℕ → ℕ → ℕ) (ns : List ℕ) → ((j n : ℕ) → j < length ns → f j n ≡ n) → by_level f ns ≡ ns
by-nothing f [] same = refl
by-nothing f (n ∷ ns) same = rw (same 0 n (omega arith), by-nothing (λ j. f (suc j)) ns (λ j m h. same (suc j) m (omega arith))) refl

-- one more level
next-freed : (x : ThreadId) (k : ℕ) (rows : List Lockable) (j n : ℕ)
    → at_level k (less (left_up_to x k rows)) j (unblocked x k rows j n) ≡ unblocked x (k + 1) rows j n
next-freed x k rows j n = grind (arith, nat_tests)

pub freed-more : (x : ThreadId) (k : ℕ) (rows : List Lockable) (ns : List ℕ)
    → by_level (at_level k (less (left_up_to x k rows))) (by_level (unblocked x k rows) ns) ≡ by_level (unblocked x (k + 1) rows) ns
freed-more x k rows ns = by-twice (at_level k (less (left_up_to x k rows))) (unblocked x k rows) (unblocked x (k + 1) rows) ns (next-freed x k rows)

pub freed-none : (x : ThreadId) (rows : List Lockable) (ns : List ℕ) → by_level (unblocked x 0 rows) ns ≡ ns
freed-none x rows ns = by-nothing (unblocked x 0 rows) ns (λ j n h. let off : ltb j 0 ≡ false = grind (arith, nat_tests) in rw off refl)

pub unfreed-at : (x : ThreadId) (k : ℕ) (rows : List Lockable) (ns : List ℕ) → get_or (by_level (unblocked x k rows) ns) k 0 ≡ get_or ns k 0
unfreed-at x k rows ns = grind (arith, nat_tests, get_or-by_level, length-by_level, get_or_past)

pub held-none : (level : ℕ) (ns : List ℕ) → ns ≡ by_level (at_level level (less 0)) ns
held-none level ns = sym (by-nothing (at_level level (less 0)) ns (λ j n h. same j n))
  where
    same : (j n : ℕ) → at_level level (less 0) j n ≡ n
    same j n = elim (cases_Bool (eqb j level)) [ inl here ↦ rw here (omega arith) | inr apart ↦ rw apart refl ]

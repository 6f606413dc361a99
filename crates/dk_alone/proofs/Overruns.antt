-- Whether a main overruns is seen in the entries of its process.
use Rattle.dk_alone.proofs.Names.{ℕ, ◌≡◌, ◌+◌, Bool, true, false, not, List, [], ◌∷◌, refl, arith, count_by, list_any, Entry, main_id, count_by-cons, budget-not, is_of_process, entries_of, overruns, nat_tests}
use Rattle.dk_alone.proofs.Own.{filter-in, filter-out, other-main}

pub not-true : (b : Bool) → not b ≡ true → b ≡ false
not-true b h = grind (arith, nat_tests)

pub not-false : (b : Bool) → b ≡ false → not b ≡ true
not-false b h = grind (arith, nat_tests)

-- no entry of another passes the test
abbrev pub IsOwn : ℕ → (Entry → Bool) → Type 0
IsOwn p test = (e : Entry) → is_of_process p e ≡ false → test e ≡ false

no-more : (n : ℕ) → 0 + n ≡ n
no-more n = omega arith

pub count-own : (p : ℕ) (test : Entry → Bool) → IsOwn p test → (es : List Entry) → count_by test es ≡ count_by test (entries_of p es)
count-own p test own [] = refl
count-own p test own (e ∷ es) = grind (arith, nat_tests, count_by-cons, filter-in, no-more, filter-out, count-own p test own es)

pub any-own : (p : ℕ) (test : Entry → Bool) → IsOwn p test → (es : List Entry) → list_any test es ≡ list_any test (entries_of p es)
any-own p test own [] = refl
any-own p test own (e ∷ es) = grind (arith, nat_tests, any-own p test own es)

pub own-overruns : (p : ℕ) (es : List Entry) → overruns p es ≡ overruns p (entries_of p es)
own-overruns p es = grind (arith, nat_tests, count-own, main_id, budget-not, other-main, any-own)

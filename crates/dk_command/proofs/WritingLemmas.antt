-- Writings one after another.
use Rattle.dk_command.proofs.Names.{ℕ, suc, true, length, ◌∷◌, ◌==◌, ◌≡◌, List, [], ◌++◌, refl, sym, ap, subst, arith, append-nil, Option, Some, None, Result, Ok, Err, IsOk, IsErr, false≢true, nat_tests, SinkView, Appends, Writes, SinkError, first_fails, second_ends}

abbrev pub Writing : Type 0
Writing = Result (Unit {0}) SinkError

appends_nothing : (w : Option (List ℕ)) → Appends w w []
appends_nothing None = refl
appends_nothing (Some bytes) = ap (λ t. Some t) (sym (append-nil bytes))

pub nothing : (a : SinkView) → Writes {A = Unit {0}} {E = SinkError} a a (Ok tt) []
nothing a = record { ok = appends_nothing a.written; err = tt; cause = λ bad. absurd (false≢true bad); stays = refl; faults = omega arith; same = refl }

-- a piece that failed, and others that were to come
pub stopped : (a b : SinkView) (r s : Writing) (xs ys : List ℕ) → IsErr r → IsErr s → Writes a b r xs → Writes a b s (xs ++ ys)
stopped a b (Ok x) s xs ys bad also first = absurd (false≢true bad)
stopped a b (Err e) s xs ys bad also first = first_fails xs ys (xs ++ ys) refl a b e s also first

-- a piece, and then another
pub goes_on : (a b c : SinkView) (r s : Writing) (xs ys : List ℕ) → IsOk r → Writes a b r xs → Writes b c s ys
    → Writes a c s (xs ++ ys)
goes_on a b c (Err e) s xs ys good first second = absurd (false≢true good)
goes_on a b c (Ok x) s xs ys good first second = second_ends xs ys (xs ++ ys) refl a b c x s first second

-- another text that is the same
pub same_text : (a b : SinkView) (r : Writing) (xs ys : List ℕ) → xs ≡ ys → Writes a b r xs → Writes a b r ys
same_text a b r xs ys is wrote = subst (Writes a b r) is wrote

pub none_left : (xs : List ℕ) → (length xs == 0) ≡ true → xs ≡ []
none_left [] h = refl
none_left (x ∷ xs) h = absurd (let none : suc (length xs) ≡ 0 = grind (arith, nat_tests) in omega arith)

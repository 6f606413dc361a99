-- The place of the first field that passes a test is found field by field.
use Rattle.std.proofs.Common.{◌≡◌, ◌<◌, ◌+◌, ℕ, zero, suc, Bool, true, false, List, [], ◌∷◌, length, drop, ap, arith}
use Rattle.std.specs.Prelude.{Some, None, position}
use Rattle.std.specs.List.{position_or_len}
use Rattle.std.proofs.lemmas.Bool.Decides.{nat_tests}
use Rattle.std.proofs.lemmas.List.{drop_all}
use Rattle.csv.specs.Records.{field_at}

-- what is found from a place on is what is found from the front on
abbrev pub Tells : (List ℕ → Bool) → List (List ℕ) → ℕ → Type 0
Tells p fields i = position_or_len p (drop i fields) + i ≡ position_or_len p fields

from_place : (fields : List (List ℕ)) (i : ℕ) (f : List ℕ) → field_at fields i ≡ Some f → drop i fields ≡ f ∷ drop (suc i) fields
unfolding field_at
from_place [] i f h = absurd (cc)
from_place (g ∷ fields) zero f h = cc
from_place (g ∷ fields) (suc i) f h = from_place fields i f h

within : (fields : List (List ℕ)) (i : ℕ) (f : List ℕ) → field_at fields i ≡ Some f → i < length fields
unfolding field_at
within [] i f h = absurd (cc)
within (g ∷ fields) zero f h = omega arith
within (g ∷ fields) (suc i) f h = let more = within fields i f h in omega (arith, more)

there : (fields : List (List ℕ)) (i : ℕ) → i < length fields → field_at fields i ≡ None → ⊥
unfolding field_at
there [] i l h = absurd (omega arith)
there (g ∷ fields) zero l h = cc
there (g ∷ fields) (suc i) l h = there fields i (omega arith) h

found_here : (p : List ℕ → Bool) (rest : List (List ℕ)) (f : List ℕ) → p f ≡ true → position_or_len p (f ∷ rest) ≡ 0
found_here p rest f passes = grind (arith, nat_tests, passes)

found_later : (p : List ℕ → Bool) (rest : List (List ℕ)) (f : List ℕ) → p f ≡ false
    → position_or_len p (f ∷ rest) ≡ 1 + position_or_len p rest
found_later p rest f fails = grind (arith, nat_tests, fails)

at_least : (p : List ℕ → Bool) (fields : List (List ℕ)) (i : ℕ) → position_or_len p fields ≡ i → i < length fields
    → Some i ≡ position p fields
at_least p fields i is l = grind (arith, nat_tests, is, l)

pub passed : (p : List ℕ → Bool) (fields : List (List ℕ)) (i : ℕ) (f : List ℕ) → field_at fields i ≡ Some f → Tells p fields i
    → p f ≡ true → Some i ≡ position p fields
passed p fields i f at tells passes =
    let rest = ap (position_or_len p) (from_place fields i f at) in
    let here = found_here p (drop (suc i) fields) f passes in
    at_least p fields i (omega (arith, tells, here, rest)) (within fields i f at)

pub failed : (p : List ℕ → Bool) (fields : List (List ℕ)) (i : ℕ) (f : List ℕ) → field_at fields i ≡ Some f → Tells p fields i
    → p f ≡ false → Tells p fields (i + 1)
failed p fields i f at tells fails =
    let rest = ap (position_or_len p) (from_place fields i f at) in
    let here = found_later p (drop (suc i) fields) f fails in
    let next : i + 1 ≡ suc i = omega arith in
    rw next (omega (arith, tells, here, rest))

none_found : (p : List ℕ → Bool) (fields : List (List ℕ)) → position_or_len p fields ≡ length fields → None ≡ position p fields
none_found p fields is = grind (arith, nat_tests, is)

pub nowhere : (p : List ℕ → Bool) (fields : List (List ℕ)) → Tells p fields (length fields) → None ≡ position p fields
nowhere p fields tells =
    let all = drop_all (length fields) fields (omega arith) in
    let none = ap (position_or_len p) all in
    none_found p fields (omega (arith, tells, none))

-- a place within has a field
pub no_gap : (fields : List (List ℕ)) (i : ℕ) → i < length fields → field_at fields i ≡ None → {A : Type 0} → A
no_gap fields i l h = absurd (there fields i l h)

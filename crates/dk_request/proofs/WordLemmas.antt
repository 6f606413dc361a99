-- Words as the program has them, and numbers that are spelled.
use Rattle.dk_request.proofs.Names.{◌≡◌, ◌<◌, ◌==◌, ◌^◌, ℕ, Bool, true, false, List, [], ◌∷◌, map, length, refl, arith, String, Global, string_bytes, inl, inr, filter, nat_le, nat_lt, None, list_all, AllDigits, IsNumeral, digits_value, without_leading_plus, digit_value, is_ascii_digit, cases_Bool, and_parts, and_right, nat_tests, list_all-map, is_numeral, Synopsis, is_allowed, is_empty, is_flag, are_taken, fits, number_in}
use Rattle.std.specs.Prelude.{not, ◌&&◌}

length-filter-map : {A B : Type 0} (f : A → B) (p : B → Bool) (xs : List A) → length (filter p (map f xs)) ≡ length (filter (λ x. p (f x)) xs)
length-filter-map f p [] = refl
length-filter-map f p (x ∷ xs) =
    elim (cases_Bool (p (f x))) [
      | inl e ↦ simp (e, length-filter-map f p xs) refl
      | inr e ↦ simp (e, length-filter-map f p xs) refl
    ]

pub are_taken-map : (s : Synopsis) (ws : List (String Global))
    → are_taken s (map string_bytes ws)
    ≡ ((list_all (λ w. not (is_empty (string_bytes w))) ws && list_all (λ w. is_allowed s (string_bytes w)) ws)
    && (fits s (length (filter (λ w. not (is_flag (string_bytes w))) ws)) && nat_le (length (filter (λ w. is_flag (string_bytes w)) ws)) 1))
are_taken-map s ws = simp (list_all-map, length-filter-map) refl

pub digit_value-digit : (c : ℕ) → is_ascii_digit c ≡ true → digit_value c < 10
digit_value-digit c h = grind (arith, nat_tests)

pub AllDigits-all : (w : List ℕ) → list_all is_ascii_digit w ≡ true → AllDigits 10 w
AllDigits-all [] h = tt
AllDigits-all (c ∷ cs) h =
    let parts = and_parts (is_ascii_digit c) (list_all is_ascii_digit cs) h in
    (digit_value-digit c parts.0, AllDigits-all cs parts.1)

no_plus : (w : List ℕ) → list_all is_ascii_digit w ≡ true → without_leading_plus w ≡ w
no_plus [] h = refl
no_plus (c ∷ cs) h =
    let parts = and_parts (is_ascii_digit c) (list_all is_ascii_digit cs) h in
    let digit : is_ascii_digit c ≡ true = parts.0 in
    let other : (c == 43) ≡ false = grind (arith, nat_tests) in
    simp other refl

pub too_large : (w : List ℕ) (least most : ℕ) → most < 2 ^ 64 → is_numeral w ≡ true
    → (IsNumeral 10 (without_leading_plus w) × (digits_value 10 (without_leading_plus w) < 2 ^ 64) → ⊥) → number_in least most w ≡ None
too_large w least most fits spelled fails =
    let long_digits = (and_parts (nat_lt 0 (length w) && list_all is_ascii_digit w) _ spelled).0 in
    let parts = and_parts (nat_lt 0 (length w)) (list_all is_ascii_digit w) long_digits in
    let long : nat_lt 0 (length w) ≡ true = parts.0 in
    let some : 0 < length w = grind (arith, nat_tests) in
    let numeral : IsNumeral 10 w = (some, AllDigits-all w parts.1) in
    let large : digits_value 10 w < 2 ^ 64 → ⊥ = λ (small : digits_value 10 w < 2 ^ 64). (rw (no_plus w parts.1) at fails) (numeral, small) in
    elim (cases_Bool (nat_le (digits_value 10 w) most)) [
      | inl e ↦ let below : digits_value 10 w < 2 ^ 64 = grind (arith, nat_tests) in absurd (large below)
      | inr e ↦ rw (spelled, and_right (nat_le least (digits_value 10 w)) (nat_le (digits_value 10 w) most) e) refl
    ]

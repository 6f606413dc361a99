-- Numbers that are spelled.
use Rattle.std.proofs.Common.{◌≡◌, ◌<◌, ◌==◌, ◌^◌, ℕ, true, false, List, [], ◌∷◌, length, refl, arith, inl, inr}
use Rattle.std.proofs.lemmas.Bool.{and_parts, cases_Bool}
use Rattle.std.proofs.lemmas.Bool.Decides.{nat_tests}
use Rattle.std.specs.Char.{digit_value}
use Rattle.std.specs.List.{list_all}
use Rattle.std.specs.Prelude.{◌&&◌, nat_le, nat_lt, None}
use Rattle.std.specs.Str.Parse.{AllDigits, IsNumeral, digits_value, without_leading_plus}
use Rattle.dk_page_prog.specs.Numbers.{is_digit_byte, is_spelled, ticks_in}

pub digit_value-digit : (c : ℕ) → is_digit_byte c ≡ true → digit_value c < 10
digit_value-digit c h = grind (arith, nat_tests)

pub AllDigits-spelled : (w : List ℕ) → list_all is_digit_byte w ≡ true → AllDigits 10 w
AllDigits-spelled [] h = tt
AllDigits-spelled (c ∷ cs) h =
    let parts = and_parts (is_digit_byte c) (list_all is_digit_byte cs) h in
    (digit_value-digit c parts.0, AllDigits-spelled cs parts.1)

no_plus : (w : List ℕ) → list_all is_digit_byte w ≡ true → without_leading_plus w ≡ w
no_plus [] h = refl
no_plus (c ∷ cs) h =
    let parts = and_parts (is_digit_byte c) (list_all is_digit_byte cs) h in
    let digit : is_digit_byte c ≡ true = parts.0 in
    let other : (c == 43) ≡ false = grind (arith, nat_tests) in
    simp other refl

pub too_large : (w : List ℕ) → is_spelled w ≡ true
    → (IsNumeral 10 (without_leading_plus w) × (digits_value 10 (without_leading_plus w) < 2 ^ 64) → ⊥) → ticks_in w ≡ None
too_large w spelled fails =
    let long_digits = (and_parts (nat_lt 0 (length w) && list_all is_digit_byte w) _ spelled).0 in
    let parts = and_parts (nat_lt 0 (length w)) (list_all is_digit_byte w) long_digits in
    let long : nat_lt 0 (length w) ≡ true = parts.0 in
    let some : 0 < length w = grind (arith, nat_tests) in
    let numeral : IsNumeral 10 w = (some, AllDigits-spelled w parts.1) in
    let large : digits_value 10 w < 2 ^ 64 → ⊥ = λ (small : digits_value 10 w < 2 ^ 64). (rw (no_plus w parts.1) at fails) (numeral, small) in
    elim (cases_Bool (nat_le (digits_value 10 w) 10000000)) [
      | inl e ↦ let below : digits_value 10 w < 2 ^ 64 = grind (arith, nat_tests) in absurd (large below)
      | inr e ↦ rw (spelled, e) refl
    ]

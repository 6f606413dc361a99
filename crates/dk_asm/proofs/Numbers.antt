-- The decimal spelling of a number is its spelling in a source.
use Rattle.dk_asm.proofs.Imports.{◌≡◌, ◌<◌, ◌+◌, ◌-◌, ◌*◌, ◌^◌, min, take, ℕ, Bool, true, false, List, length, get_or, arith, refl, rules, ◌==◌, ◌||◌, not, decimal, list_all, is_ascii_digit, digit_value, digits_value, nat_tests, digits_decimal, digits_value-decimal, decimal_nonempty, first_decimal, decimal_digit, is_numeral, IsNumber}
use Rattle.std.proofs.lemmas.Int.Digits.{digits_value_more}
use Rattle.std.proofs.lemmas.Str.Parse.{IsNumeralModel, numerals_by_value, IsDigitsTest}
use Rattle.dk_asm.proofs.Booleans.{both, each_place}

tells : IsDigitsTest (λ ds. list_all is_ascii_digit ds ≡ true)
tells = search rules

pub own : IsNumeralModel (λ ds. list_all is_ascii_digit ds ≡ true) (digits_value 10)
own = numerals_by_value _ tells

above : (d : ℕ) → 48 < d → not (d == 48) ≡ true
above d h = grind (arith, nat_tests)

-- one digit, or the first is above 0
led : (n d : ℕ) → 0 < n → (1 < n → 48 < d) → (n == 1 || not (d == 48)) ≡ true
led n d some first = go (n == 1) refl
  where
    go : (t : Bool) → (n == 1) ≡ t → (t || not (d == 48)) ≡ true
    go true one = refl
    go false more = let many : 1 < n = grind (arith, nat_tests) in above d (first many)

-- digits that aren't empty and begin with no 0, or are one digit
numeral : (ds : List ℕ) → list_all is_ascii_digit ds ≡ true → 0 < length ds → (1 < length ds → 48 < get_or ds 0 0) → is_numeral ds ≡ true
numeral ds all some first = grind (arith, nat_tests, both, led)

first_digit : (n : ℕ) → n < 2 ^ 64 → 1 < length (decimal n) → 48 < get_or (decimal n) 0 0
first_digit n small long = grind (arith, nat_tests, decimal_digit, first_decimal)

pub decimal_digits : (n : ℕ) → n < 2 ^ 64 → list_all is_ascii_digit (decimal n) ≡ true
decimal_digits n small = digits_decimal own n small

pub decimal_is_number : (n : ℕ) → n < 2 ^ 64 → IsNumber (decimal n) n
decimal_is_number n small = grind (arith, nat_tests, numeral, decimal_digits, decimal_nonempty, first_digit, digits_value-decimal, own)

digit_is : (d : ℕ) → is_ascii_digit d ≡ true → digit_value d ≡ d - 48
digit_is d h = grind (arith, nat_tests)

-- one digit more, where numbers from 65,536 on are all the same
pub capped_more : (ds : List ℕ) (i : ℕ) → list_all is_ascii_digit ds ≡ true → i < length ds
    → min (min (digits_value 10 (take i ds)) 65536 * 10 + (get_or ds i 0 - 48)) 65536 ≡ min (digits_value 10 (take (i + 1) ds)) 65536
capped_more ds i all l = grind (arith, nat_tests, digit_is, each_place, digits_value_more)

-- Digits that are read one by one.
use Rattle.std.proofs.Common.{◌≡◌, ◌<◌, ◌+◌, ◌-◌, ◌*◌, min, take, ℕ, zero, suc, Bool, true, List, [], ◌∷◌, length, get_or, arith}
use Rattle.std.specs.List.{list_all}
use Rattle.std.specs.Char.{is_ascii_digit, digit_value}
use Rattle.std.specs.Str.Parse.{digits_value}
use Rattle.std.proofs.lemmas.Int.Digits.{digits_value_more}
use Rattle.std.proofs.lemmas.Bool.Decides.{nat_tests}

each_place : (p : ℕ → Bool) (bs : List ℕ) → list_all p bs ≡ true → (i d : ℕ) → i < length bs → p (get_or bs i d) ≡ true
each_place p [] h i d l = absurd (omega arith)
each_place p (b ∷ bs) h zero d l = grind (arith, nat_tests)
each_place p (b ∷ bs) h (suc i) d l =
    let rest : list_all p bs ≡ true = grind (arith, nat_tests) in
    each_place p bs rest i d (omega arith)

digit_is : (d : ℕ) → is_ascii_digit d ≡ true → digit_value d ≡ d - 48
digit_is d h = grind (arith, nat_tests)

-- one digit more, where numbers from 1,000,000 on are all the same
pub capped_more : (ds : List ℕ) (i : ℕ) → list_all is_ascii_digit ds ≡ true → i < length ds
    → min (min (digits_value 10 (take i ds)) 1000000 * 10 + (get_or ds i 0 - 48)) 1000000 ≡ min (digits_value 10 (take (i + 1) ds)) 1000000
capped_more ds i all l =
    let digit = digit_is (get_or ds i 0) (each_place is_ascii_digit ds all i 0 l) in
    let more = digits_value_more 10 ds i l in
    omega (arith, digit, more)

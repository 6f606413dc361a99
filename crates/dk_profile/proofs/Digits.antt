-- A number is read digit by digit.
use Rattle.std.proofs.Common.{◌≡◌, refl, ◌<◌, ◌+◌, ◌-◌, ◌*◌, min, take, ℕ, zero, suc, Bool, true, false, List, [], ◌∷◌, length, get_or, arith}
use Rattle.std.specs.Prelude.{◌&&◌}
use Rattle.std.specs.List.{list_all}
use Rattle.std.specs.Char.{is_ascii_digit, digit_value}
use Rattle.std.proofs.lemmas.Int.Digits.{digits_value_more}
use Rattle.std.specs.Str.Parse.{digits_value}
use Rattle.std.proofs.lemmas.Bool.Decides.{nat_tests}

both_left : (a b : Bool) → (a && b) ≡ true → a ≡ true
both_left true b h = refl
both_left false b h = h

both_right : (a b : Bool) → (a && b) ≡ true → b ≡ true
both_right true b h = h
both_right false b h = absurd (cc)

each_place : (p : ℕ → Bool) (bs : List ℕ) → list_all p bs ≡ true → (i d : ℕ) → i < length bs → p (get_or bs i d) ≡ true
each_place p [] h i d l = absurd (omega arith)
each_place p (b ∷ bs) h zero d l = both_left (p b) (list_all p bs) h
each_place p (b ∷ bs) h (suc i) d l = each_place p bs (both_right (p b) (list_all p bs) h) i d (omega arith)

digit_is : (d : ℕ) → is_ascii_digit d ≡ true → digit_value d ≡ d - 48
digit_is d h = grind (arith, nat_tests)

-- one digit more, where numbers from 1,000,001 on are all the same
pub capped_more : (ds : List ℕ) (i : ℕ) → list_all is_ascii_digit ds ≡ true → i < length ds
    → min (min (digits_value 10 (take i ds)) 1000001 * 10 + (get_or ds i 0 - 48)) 1000001 ≡ min (digits_value 10 (take (i + 1) ds)) 1000001
capped_more ds i all l =
    let digit = digit_is (get_or ds i 0) (each_place is_ascii_digit ds all i 0 l) in
    let more = digits_value_more 10 ds i l in
    omega (arith, digit, more)

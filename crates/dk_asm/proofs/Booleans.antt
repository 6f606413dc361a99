-- What a test of each byte says of each place.
use Rattle.dk_asm.proofs.Imports.{◌≡◌, ◌<◌, ℕ, zero, suc, Bool, true, List, [], ◌∷◌, length, get_or, arith, ◌&&◌, list_all, nat_tests}

pub both_left : (a b : Bool) → (a && b) ≡ true → a ≡ true
both_left a b h = grind (arith, nat_tests)

pub both_right : (a b : Bool) → (a && b) ≡ true → b ≡ true
both_right a b h = grind (arith, nat_tests)

pub both : (a b : Bool) → a ≡ true → b ≡ true → (a && b) ≡ true
both a b h k = grind (arith, nat_tests)

pub each_place : (p : ℕ → Bool) (bs : List ℕ) → list_all p bs ≡ true → (i d : ℕ) → i < length bs → p (get_or bs i d) ≡ true
each_place p [] h i d l = absurd (omega arith)
each_place p (b ∷ bs) h zero d l = both_left (p b) (list_all p bs) h
each_place p (b ∷ bs) h (suc i) d l = each_place p bs (both_right (p b) (list_all p bs) h) i d (omega arith)

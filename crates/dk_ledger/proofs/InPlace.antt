-- What lies first in bytes, and what comes behind it.
use Rattle.dk_ledger.proofs.Names.{ℕ, ◌≡◌, ◌∙◌, ◌+◌, ◌*◌, ◌<◌, ◌^◌, ◌++◌, ◌∷◌, [], List, sym, ap, arith, append_assoc, decimal, IfSome, MatchOption, Bor, decimal_step, nat_tests}
use Rattle.std.proofs.Common.{Option}

-- what lies behind a word that is the same as another
pub behind_word : (r : Option (Bor (List ℕ))) (bytes word same : List ℕ) (P : Type 0) → word ≡ same → MatchOption r P (λ rest. bytes ≡ word ++ rest.now)
    → IfSome r (λ rest. bytes ≡ same ++ rest.now)
behind_word bytes word same P is at found = grind (arith, nat_tests)

-- a number with one digit more
pub one_digit_more : (n d : ℕ) → 0 < n → d < 10 → n * 10 + d < 2 ^ 64 → decimal (n * 10 + d) ≡ decimal n ++ (48 + d) ∷ []
one_digit_more n d some digit fits = grind (arith, nat_tests, decimal_step)

-- the digit that comes next is the number's
pub next_digit_read : (whole : List ℕ) (n m : ℕ) (rest behind : List ℕ) → whole ≡ decimal n ++ rest → rest ≡ (48 + m) ∷ behind → 0 < n → m < 10 → n * 10 + m < 2 ^ 64
    → whole ≡ decimal (n * 10 + m) ++ behind
next_digit_read whole n m rest behind text next some digit fits =
    text ∙ ap (λ t. decimal n ++ t) next ∙ sym (append_assoc (decimal n) ((48 + m) ∷ []) behind)
    ∙ ap (λ t. t ++ behind) (sym (one_digit_more n m some digit fits))

-- The names of the processes: each is a name, and no two are the same.
use Rattle.std.proofs.Common.{◌≡◌, ◌<◌, ◌+◌, ℕ, inl, inr, true, false, ◌&&◌, List, ◌++◌, arith, ap, sym, subst}
use Rattle.std.specs.Prelude.{decimal, codes}
use Rattle.std.specs.Str.{bytes_eq}
use Rattle.std.proofs.lemmas.Bool.{cases_Bool, or_right, or_left}
use Rattle.std.proofs.lemmas.Bool.Decides.{nat_tests}
use Rattle.std.proofs.lemmas.Fmt.{decimal_digit, decimal_injective}
use Rattle.std.proofs.lemmas.Slice.Eq.{bytes_eq-Decides}
use Rattle.dk_config.specs.Rules.{is_name, is_file_name, is_digit, is_word, is_file_byte}
use Rattle.dk_gen.specs.Generated.{name_of, file_name_of}

pub names_differ : (j k : ℕ) → j < k → k < 10 → bytes_eq (name_of j) (name_of k) ≡ false
names_differ j k before few = elim (cases_Bool (bytes_eq (name_of j) (name_of k))) [
  | inl same ↦ absurd (
      let names : name_of j ≡ name_of k = (bytes_eq-Decides (name_of j) (name_of k)).0 same in
      let digits : decimal j ≡ decimal k = cc in
      let numbers = decimal_injective j k (omega arith) (omega arith) digits in
      omega (arith, numbers))
  | inr other ↦ other
]

digit : (k : ℕ) → k < 10 → is_digit (48 + k) ≡ true
digit k few = grind (arith, nat_tests)

word : (k : ℕ) → k < 10 → is_word (48 + k) ≡ true
word k few = or_left _ _ (or_right _ _ (digit k few))

file_byte : (k : ℕ) → k < 10 → is_file_byte (48 + k) ≡ true
file_byte k few = or_left _ _ (or_left _ _ (or_left _ _ (or_left _ _ (or_right _ _ (digit k few)))))

pub is_name_of : (k : ℕ) → k < 10 → is_name (name_of k) ≡ true
is_name_of k few =
    let P : List ℕ → Type 0 = λ ds. is_name (codes "g" ++ ds) ≡ true in
    subst P (sym (decimal_digit k few)) (ap (λ b. b && true) (word k few))

pub is_file_name_of : (k : ℕ) → k < 10 → is_file_name (file_name_of k) ≡ true
is_file_name_of k few =
    let P : List ℕ → Type 0 = λ ds. is_file_name (codes "g" ++ ds ++ codes ".bin") ≡ true in
    subst P (sym (decimal_digit k few)) (ap (λ b. b && true) (file_byte k few))

-- Texts up to their first byte of another kind, and the digits of a number.
use Rattle.std.proofs.Common.{ℕ, ◌≡◌, ◌∙◌, ◌<◌, ◌^◌, ◌++◌, [], ◌∷◌, List, ap, refl, sym}
use Rattle.std.specs.Prelude.{Bool, true, false, ◌&&◌, decimal}
use Rattle.std.specs.List.{list_all}
use Rattle.std.specs.Char.{is_ascii_digit}
use Rattle.std.specs.Str.{all_ascii_digits}
use Rattle.std.proofs.lemmas.Fmt.{digits_decimal}
use Rattle.dk_ledger.proofs.NameLemmas.{both_left, both_right}
use Rattle.dk_ledger.proofs.WordBytes.{own}
use Rattle.dk_groups.proofs.ListParts.{first_same, rest_same}

-- of bytes with a property that the byte behind them hasn't
module _ (p : ℕ → Bool) where
  no_stop : (a b : ℕ) (bs : List ℕ) → p a ≡ false → list_all p (b ∷ bs) ≡ true → b ≡ a → ⊥
  no_stop a b bs out all is =
      let own : p a ≡ true = ap p (sym is) ∙ both_left (p b) (list_all p bs) all in
      let bad : false ≡ true = sym out ∙ own in
      cc

  pub until : (s t : List ℕ) (a b : ℕ) (x y : List ℕ) → list_all p s ≡ true → list_all p t ≡ true → p a ≡ false → p b ≡ false
      → s ++ a ∷ x ≡ t ++ b ∷ y → (s ≡ t) × (a ∷ x ≡ b ∷ y)
  until [] [] a b x y ps pt pa pb e = (refl, e)
  until [] (d ∷ t) a b x y ps pt pa pb e = absurd (no_stop a d t pa pt (sym (first_same e)))
  until (c ∷ s) [] a b x y ps pt pa pb e = absurd (no_stop b c s pb ps (first_same e))
  until (c ∷ s) (d ∷ t) a b x y ps pt pa pb e =
      let rest = until s t a b x y (both_right (p c) (list_all p s) ps) (both_right (p d) (list_all p t) pt) pa pb (rest_same e) in
      (ap (λ r. r ∷ s) (first_same e) ∙ ap (λ r. d ∷ r) rest.0, rest.1)

all_digits : (ds : List ℕ) → all_ascii_digits ds ≡ true → list_all is_ascii_digit ds ≡ true
all_digits [] h = refl
all_digits (d ∷ ds) h =
    ap (λ x. x && list_all is_ascii_digit ds) (both_left (is_ascii_digit d) (all_ascii_digits ds) h)
    ∙ all_digits ds (both_right (is_ascii_digit d) (all_ascii_digits ds) h)

pub decimal_digits : (n : ℕ) → n < 2 ^ 64 → list_all is_ascii_digit (decimal n) ≡ true
decimal_digits n h = all_digits (decimal n) (digits_decimal own n h)

-- One column more.
use Rattle.std.proofs.Common.{ℕ, zero, suc, ◌≡◌, ◌∙◌, ◌+◌, ◌≤◌, ◌++◌, inl, inr, true, List, [], ◌∷◌, refl, ap, add-one, arith}
use Rattle.std.specs.Prelude.{◌||◌}
use Rattle.std.specs.Str.{bytes_eq}
use Rattle.std.proofs.lemmas.Bool.{cases_Bool}
use Rattle.std.proofs.lemmas.List.{append_assoc}
use Rattle.csv.specs.Records.{field_at}
use Rattle.dk_config.specs.declared.rows.ProcessRow.{ProcessRow}
use Rattle.show_budgets.specs.Strangers.{is_again, is_named, stranger_told, strangers_below}

pub one_more : (rows : List ProcessRow) (names : List (List ℕ)) (n : ℕ)
    → strangers_below rows names (n + 1) ≡ strangers_below rows names n ++ stranger_told rows names n (field_at names n)
one_more rows names n = ap (strangers_below rows names) (add-one n)

next_name : (name : List ℕ) (names : List (List ℕ)) (n : ℕ)
    → is_again names (suc n) name ≡ (is_again names n name || is_named name (field_at names n))
unfolding field_at
next_name name [] zero = refl
next_name name [] (suc n) = refl
next_name name (other ∷ names) zero = grind (arith)
next_name name (other ∷ names) (suc n) = let more = next_name name names n in grind (arith, more)

pub one_name_more : (name : List ℕ) (names : List (List ℕ)) (n : ℕ)
    → is_again names (n + 1) name ≡ (is_again names n name || is_named name (field_at names n))
one_name_more name names n = ap (λ k. is_again names k name) (add-one n) ∙ next_name name names n

-- what is in front of a place is in front of a later one
pub stays : (name : List ℕ) (names : List (List ℕ)) (n m : ℕ) → n ≤ m → is_again names n name ≡ true → is_again names m name ≡ true
stays name [] zero m le is = grind (arith, is)
stays name [] (suc n) m le is = grind (arith, is)
stays name (other ∷ names) zero m le is = grind (arith, is)
stays name (other ∷ names) (suc n) zero le is = absurd (omega (arith, le))
stays name (other ∷ names) (suc n) (suc m) le is =
    elim (cases_Bool (bytes_eq name other)) [
      | inl same ↦ grind (arith, same)
      | inr isnt ↦ let rest = stays name names n m (omega (arith, le)) (grind (arith, isnt, is)) in grind (arith, rest)
    ]

-- three texts are added one after the other
pub in_turn : (old a b d one two three : List ℕ) → one ≡ old ++ a → two ≡ one ++ b → three ≡ two ++ d → three ≡ old ++ (a ++ (b ++ d))
in_turn old a b d one two three first second third =
    third ∙ ap (λ l. l ++ d) (second ∙ ap (λ l. l ++ b) first) ∙ ap (λ l. l ++ d) (append_assoc old a b) ∙ append_assoc old (a ++ b) d ∙ ap (λ l. old ++ l) (append_assoc a b d)

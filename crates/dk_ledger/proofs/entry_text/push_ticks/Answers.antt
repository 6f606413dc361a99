use Rattle.dk_ledger.proofs.Names.{◌≡◌, ◌++◌, ◌∷◌, [], List, ℕ, arith, codes, decimal, decimal_digit, Label, Heading, label_text, nat_tests}
use Rattle.dk_ledger.proofs.entry_text.push_ticks.Goals as goal

-- the text of one tick of a label
module _ (h : Heading) (text : List ℕ) where
  abbrev with_ticks : ℕ → Label → List ℕ
  with_ticks count label = text ++ (codes " " ++ decimal count ++ codes " " ++ label_text h label)

  abbrev with_digits : List ℕ → Label → List ℕ
  with_digits digits label = text ++ (codes " " ++ digits ++ codes " " ++ label_text h label)

  one_tick : (count : ℕ) (label known : Label) → count ≡ 1 → label ≡ known → with_digits (49 ∷ []) known ≡ with_ticks count label
  one_tick count label known one is = grind (arith, nat_tests, decimal_digit)

pub returns-in-Call-clause-bytes : goal.returns-in-Call-clause-bytes
returns-in-Call-clause-bytes c = grind (arith, nat_tests, one_tick)

pub returns-in-Run-clause-bytes : goal.returns-in-Run-clause-bytes
returns-in-Run-clause-bytes c = grind (arith, nat_tests, one_tick)

-- Texts of processes, taken apart at the first one.
use Rattle.std.proofs.Common.{ℕ, suc, ◌≡◌, ◌∙◌, ◌≤◌, ◌+◌, ◌++◌, [], ◌∷◌, List, length, ap, sym, arith, add-one, get_or}
use Rattle.std.proofs.lemmas.List.{take_rest}
use Rattle.dk_ledger.specs.declared.header.ProcessLine.{ProcessLine}
use Rattle.dk_ledger.proofs.HeaderLemmas.{rest_of}

module _ (text : ℕ → ProcessLine → List ℕ) (texts : ℕ → List ProcessLine → List ℕ)
    (one_more : (p : ℕ) (l : ProcessLine) (ls : List ProcessLine) → texts p (l ∷ ls) ≡ text p l ++ texts (suc p) ls) where
  pub parts_of : (at : ℕ) (ps : List ProcessLine) (p : ProcessLine) (own : List ℕ) → 1 ≤ length ps → p ≡ get_or ps 0 p → own ≡ text at p
      → texts at ps ≡ own ++ texts (at + 1) (rest_of ps)
  parts_of at [] p own h first is = absurd (omega arith)
  parts_of at (q ∷ ps) p own h first is =
      one_more at q ps ∙ ap (λ t. t ++ texts (suc at) ps) (ap (text at) (sym first) ∙ sym is)
      ∙ ap (λ n. own ++ texts n ps) (sym (add-one at))
      ∙ ap (λ rest. own ++ texts (at + 1) rest) (sym (take_rest (q ∷ ps) 1))

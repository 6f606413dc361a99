-- Texts of one line for each row.
use Rattle.std.specs.Prelude.{ℕ, zero, suc, ◌≡◌, ◌≤◌, List, [], ◌++◌}

-- the text is one line for each number below n, in their order
abbrev pub AreLines : (ℕ → List ℕ → Type 0) → ℕ → List ℕ → Type 0
AreLines IsLine zero text = text ≡ []
AreLines IsLine (suc n) text =
    (before : List ℕ) × (line : List ℕ) × AreLines IsLine n before × IsLine n line × (text ≡ before ++ line)

-- such lines were added to a text
pub record AddsLines (IsLine : ℕ → List ℕ → Type 0) (n : ℕ) (old new : List ℕ) : Type 0 where
  pub lines : List ℕ
  pub are : AreLines IsLine n lines
  pub added : new ≡ old ++ lines

-- the fact holds of the number, and of none that is less
pub record IsLeast (P : ℕ → Type 0) (n : ℕ) : Type 0 where
  pub reached : P n
  pub least : (m : ℕ) → P m → n ≤ m

-- Texts of one line for each number, in their order.
use Rattle.std.specs.Prelude.{ℕ, zero, suc, ◌≡◌, List, [], ◌++◌}

-- the text is one line for each number below n
abbrev pub AreLines : (ℕ → List ℕ → Type 0) → ℕ → List ℕ → Type 0
AreLines IsLine zero text = text ≡ []
AreLines IsLine (suc n) text =
    (before : List ℕ) × (line : List ℕ) × AreLines IsLine n before × IsLine n line × (text ≡ before ++ line)

-- such a line was added to a text
pub record AddsLine (IsLine : List ℕ → Type 0) (old new : List ℕ) : Type 0 where
  pub line : List ℕ
  pub is : IsLine line
  pub added : new ≡ old ++ line

-- such lines were added to a text
pub record AddsLines (IsLine : ℕ → List ℕ → Type 0) (n : ℕ) (old new : List ℕ) : Type 0 where
  pub lines : List ℕ
  pub are : AreLines IsLine n lines
  pub added : new ≡ old ++ lines

-- Texts, each behind a separator.
use Rattle.std.specs.Prelude.{ℕ, List, [], ◌∷◌, ◌++◌}

-- the texts, with the separator before the first and commas before the others
abbrev pub behind : ℕ → List (List ℕ) → List ℕ
behind separator [] = []
behind separator (text ∷ texts) = separator ∷ (text ++ behind 44 texts)

-- Words with a byte between each two.
use Rattle.std.specs.Prelude.{ℕ, ◌++◌, ◌∷◌, [], List, flat_map}

-- words behind another
abbrev pub behind : ℕ → List (List ℕ) → List ℕ
behind sep ws = flat_map (λ w. sep ∷ w) ws

abbrev pub parted : ℕ → List (List ℕ) → List ℕ
parted sep [] = []
parted sep (w ∷ ws) = w ++ behind sep ws

-- Pieces that are added to a text one after the other.
use Rattle.std.proofs.Common.{◌≡◌, ◌∙◌, ◌++◌, ℕ, List, ap, append_assoc}

-- one piece, and then the rest
pub more : (piece rest before between after : List ℕ) → between ≡ before ++ piece → after ≡ between ++ rest → after ≡ before ++ (piece ++ rest)
more piece rest before between after first next = next ∙ ap (λ t. t ++ rest) first ∙ append_assoc before piece rest

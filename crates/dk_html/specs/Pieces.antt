-- The pieces of a text between bytes of one kind.
use Rattle.std.specs.Prelude.{ℕ, ◌==◌, ◌+◌, List, take, drop, position, Option, option_map}
use Rattle.std.specs.List.{slice_split}

-- what stands before the first such byte, between two of them, and behind the last
abbrev pub pieces : ℕ → List ℕ → List (List ℕ)
pieces byte text = slice_split (λ b. b == byte) text

-- what stands before the first such byte, and what stands behind it
abbrev pub cut_at : ℕ → List ℕ → Option (List ℕ × List ℕ)
cut_at byte text = option_map (λ end. (take end text, drop (end + 1) text)) (position (λ b. b == byte) text)

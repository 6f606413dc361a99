-- Operands of kinds of which the last few are optional.
use Rattle.dk_asm.proofs.Imports.{◌≡◌, ap, refl, ◌<◌, ℕ, suc, false, cond, List, [], ◌∷◌, length, arith, Option, Some, None, ◌&&◌, ◌==◌, nat_le, replicate, slice_split, option_map, nat_tests, Kind, Operand, Statement, read_piece, in_front, read_pieces, read_some, read_bytes, cut_at}
use Rattle.dk_asm.proofs.TextLines.{piece_at_cut, piece_at_end}

some_left : (n : ℕ) → nat_le (suc n) 0 ≡ false
some_left n = grind (arith, nat_tests)

-- none is optional
pub all_pieces : (kinds : List Kind) (pieces : List (List ℕ)) → read_some 0 kinds pieces ≡ read_pieces kinds pieces
all_pieces [] [] = refl
all_pieces [] (p ∷ pieces) = refl
all_pieces (kind ∷ kinds) [] = ap (λ t. cond t (Some []) None) (some_left (length kinds))
all_pieces (kind ∷ kinds) (p ∷ pieces) = ap (in_front (read_piece kind p)) (all_pieces kinds pieces)

nothing : (o : Option Operand) → in_front o None ≡ None
nothing o = grind (arith, nat_tests)

above_four : (n : ℕ) → (nat_le 1 (suc (suc (suc (suc (suc n))))) && nat_le (suc (suc (suc (suc (suc n))))) 4) ≡ false
above_four n = grind (arith, nat_tests)

-- three of four numbers are optional
pub one_to_four : (pieces : List (List ℕ)) → option_map Statement.bytes (read_some 3 (replicate 4 Kind.Byte) pieces) ≡ read_bytes pieces
one_to_four [] = refl
one_to_four (p ∷ []) = refl
one_to_four (p ∷ q ∷ []) = refl
one_to_four (p ∷ q ∷ r ∷ []) = refl
one_to_four (p ∷ q ∷ r ∷ s ∷ []) = refl
one_to_four (p ∷ q ∷ r ∷ s ∷ t ∷ pieces) = grind (arith, nat_tests, nothing, above_four)

-- a text has at least one piece
pub no_kind : (optional : ℕ) (kinds : List Kind) (text : List ℕ) → length kinds < 1 → read_some optional kinds (slice_split (λ b. b == 44) text) ≡ None
no_kind optional (kind ∷ kinds) text l = absurd (omega arith)
no_kind optional [] text l = go (cut_at 44 text) refl
  where
    go : (cut : Option (List ℕ × List ℕ)) → cut_at 44 text ≡ cut → read_some optional [] (slice_split (λ b. b == 44) text) ≡ None
    go None is = ap (read_some optional []) (piece_at_end text is)
    go (Some (piece, rest)) is = ap (read_some optional []) (piece_at_cut text piece rest is)

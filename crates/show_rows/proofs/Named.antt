-- A column that hasn't the name is passed over.
use Rattle.std.proofs.Common.{◌≡◌, ◌∙◌, refl, ap, arith, ◌<◌, ◌+◌, ℕ, false, List, [], ◌∷◌, length, take, drop, map, Some, None}
use Rattle.std.specs.Prelude.{◌==◌, position}
use Rattle.std.specs.Str.{bytes_eq}
use Rattle.show_rows.specs.declared.cell.Cell.{Cell}
use Rattle.show_rows.specs.Rows.{cell_named, cell_text, names}
use Rattle.show_rows.proofs.Cuts.{first_name, one_name}

none_named : (row : List (List ℕ)) (name : List ℕ) → cell_named [] row name ≡ []
none_named [] name = refl
none_named (cell ∷ row) name = refl

pub another_name : (columns name : List ℕ) (end : ℕ) (cells : List Cell) → 0 < length cells → position (λ b. b == 44) columns ≡ Some end
    → bytes_eq (take end columns) name ≡ false
    → cell_named (names columns) (map cell_text cells) name ≡ cell_named (names (drop (end + 1) columns)) (map cell_text (drop 1 cells)) name
another_name columns name end [] some at other = absurd (omega arith)
another_name columns name end (cell ∷ cells) some at other =
    ap (λ ns. cell_named ns (map cell_text (cell ∷ cells)) name) (first_name columns end at) ∙ rw other refl

pub no_other_name : (columns name : List ℕ) (cells : List Cell) → position (λ b. b == 44) columns ≡ None → bytes_eq columns name ≡ false
    → cell_named (names columns) (map cell_text cells) name ≡ []
no_other_name columns name [] at other = refl
no_other_name columns name (cell ∷ cells) at other =
    ap (λ ns. cell_named ns (map cell_text (cell ∷ cells)) name) (one_name columns at) ∙ rw other (none_named (map cell_text cells) name)

-- The cells of what a part takes, one for each level.
use Rattle.std.proofs.Common.{◌≡◌, ◌∙◌, ◌+◌, ◌++◌, ℕ, suc, List, [], ◌∷◌, ap, sym, map, arith, append_assoc}
use Rattle.std.proofs.lemmas.List.{map-append}
use Rattle.dk_config.specs.Sums.{below}
use Rattle.dk_config.proofs.Counting.{map-numbers-more}
use Rattle.show_rows.specs.declared.cell.Cell.{Cell}
use Rattle.show_rows.specs.Rows.{cell_text}

-- the cell of the next level was added
pub one_more : (f : ℕ → List ℕ) (level : ℕ) (start : List (List ℕ)) (cells : List Cell) (cell : Cell) → cell_text cell ≡ f level
    → map cell_text cells ≡ start ++ map f (below level)
    → map cell_text (cells ++ cell ∷ []) ≡ start ++ map f (below (level + 1))
one_more f level start cells cell is so_far =
    let up : level + 1 ≡ suc level = omega arith in
    let same : 0 + level ≡ level = omega arith in
    let next = ap (λ k. map f (below k)) up ∙ map-numbers-more f 0 level ∙ ap (λ k. map f (below level) ++ f k ∷ []) same in
    map-append cell_text cells (cell ∷ []) ∙ ap (λ text. map cell_text cells ++ text ∷ []) is
    ∙ ap (λ texts. texts ++ f level ∷ []) so_far ∙ append_assoc start (map f (below level)) (f level ∷ [])
    ∙ ap (λ texts. start ++ texts) (sym next)

use Rattle.std.proofs.Common.{◌≡◌, ◌∙◌, ◌+◌, ◌-◌, ◌≤◌, ℕ, List, drop, length, take, map, sym, ap, subst, arith}
use Rattle.std.proofs.lemmas.List.{length-drop, take_all}
use Rattle.show_rows.specs.Rows.{cell_named, cell_text, names}
use Rattle.show_rows.proofs.Named.{another_name}
use Rattle.show_rows.proofs.column.+cell_named.Goals as goal

-- what stands behind a place of a list, as a slice has it
behind : {X : Type 0} (k : ℕ) (xs : List X) → take (length xs - k) (drop k xs) ≡ drop k xs
behind k xs = take_all (length xs - k) (drop k xs) (subst (λ n. n ≤ length xs - k) (sym (length-drop k xs)) (omega arith))

-- the column hasn't the name, and the cell is that of one behind it
pub returns-else-is_same : goal.returns-else-is_same
returns-else-is_same t c =
    let columns = c.args.columns.now in
    let cells = c.args.cells.now in
    let end = c.in-Some.end in
    let step = another_name columns c.args.name.now end cells (grind arith) (grind arith) (grind arith) in
    c.cell_named.ensures
    ∙ ap (λ text. cell_named (names text) (map cell_text (take (length cells - 1) (drop 1 cells))) c.args.name.now) (behind (end + 1) columns)
    ∙ ap (λ row. cell_named (names (drop (end + 1) columns)) (map cell_text row) c.args.name.now) (behind 1 cells)
    ∙ sym step

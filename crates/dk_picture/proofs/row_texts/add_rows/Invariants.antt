use Rattle.dk_picture.proofs.Names.{◌≡◌, ◌++◌, drop, string_bytes, rows_text}
use Rattle.dk_picture.proofs.row_texts.add_rows.Given as goal

-- the rows so far, before those that are left
abbrev pub invariant-loop-place : goal.invariant-loop-place
invariant-loop-place l =
    string_bytes l.text ++ rows_text l.header l.frame l.span l.drawing l.place (drop l.place l.rows) ≡ string_bytes l.initial.text ++ rows_text l.header l.frame l.span l.drawing 0 l.rows

use Rattle.std.proofs.Common.{refl, append_assoc}
use Rattle.dk_html.specs.Tables.{column_row}
use Rattle.dk_html.proofs.tables.add_column_row.Goals as goal

pub returns : goal.returns
unfolding column_row
returns c = simp (c.in_ok-add_words-2.ensures, c.in_ok-add_column_cells.ensures, c.in_ok-add_words.ensures, append_assoc) refl

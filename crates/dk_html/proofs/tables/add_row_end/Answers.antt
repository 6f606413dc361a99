use Rattle.std.proofs.Common.{refl, append_assoc}
use Rattle.dk_html.specs.Tables.{row_end}
use Rattle.dk_html.proofs.tables.add_row_end.Goals as goal

pub returns : goal.returns
unfolding row_end
returns c = simp (c.in_ok-add_words.ensures, c.in_ok-add_cells.ensures, append_assoc) refl

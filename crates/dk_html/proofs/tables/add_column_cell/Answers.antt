use Rattle.std.proofs.Common.{refl, append_assoc}
use Rattle.dk_html.specs.Tables.{column_cell}
use Rattle.dk_html.proofs.tables.add_column_cell.Goals as goal

pub returns : goal.returns
unfolding column_cell
returns c = simp (c.in_ok-add_words-2.ensures, c.in_ok-add_escaped.ensures, c.in_ok-add_words.ensures, append_assoc) refl

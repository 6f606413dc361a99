use Rattle.std.proofs.Common.{refl, append_assoc}
use Rattle.dk_html.specs.Tables.{row_start}
use Rattle.dk_html.proofs.tables.add_row_start.Goals as goal

pub returns : goal.returns
unfolding row_start
returns c =
    simp (c.in_ok-add_words-3.ensures, c.in_ok-add_properties.ensures, c.in_ok-add_words-2.ensures, c.in_ok-add_escaped.ensures, c.first_of.ensures, c.in_ok-add_words.ensures, append_assoc) refl

use Rattle.std.proofs.Common.{refl, append_assoc}
use Rattle.dk_html.specs.Outputs.{output}
use Rattle.dk_html.proofs.outputs.add_output.Goals as goal

pub returns : goal.returns
unfolding output
returns c =
    simp (c.in_ok-add_words-4.ensures, c.in_ok-add_escaped-2.ensures, c.in_ok-add_words-3.ensures, c.in_ok-add_escaped.ensures, c.in_ok-add_words-2.ensures, c.in_ok-add_words.ensures, append_assoc) refl

use Rattle.std.proofs.Common.{refl, append_assoc}
use Rattle.dk_page.specs.Pages.{top_text}
use Rattle.dk_page.proofs.top.add_top.Goals as goal

pub returns : goal.returns
unfolding top_text
returns c =
    simp (c.in_ok-add_inputs.ensures, c.as_slice-2.ensures.value, c.in_ok-add_made.ensures, c.as_slice.ensures.value, c.in_ok-add_warnings_tile.ensures, c.tone.ensures, c.in_ok-add_certification_tile.ensures, c.in_ok-add_title.ensures, append_assoc) refl

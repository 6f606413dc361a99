use Rattle.std.proofs.Common.{refl, append_assoc}
use Rattle.dk_page.specs.Pages.{bottom_text}
use Rattle.dk_page.proofs.outputs.add_bottom.Goals as goal

pub returns : goal.returns
unfolding bottom_text
returns c =
    simp (c.in_ok-add_ending.ensures, c.as_slice-5.ensures.value, c.in_ok-add_outputs.ensures, c.as_slice-4.ensures.value, c.as_slice-3.ensures.value, c.as_slice-2.ensures.value, c.as_slice.ensures.value, c.in_ok-when.ensures, append_assoc) refl

use Rattle.std.proofs.Common.{refl, append_assoc}
use Rattle.dk_page.specs.Pages.{page_text}
use Rattle.dk_page.proofs.whole.add_page.Goals as goal

pub returns : goal.returns
unfolding page_text
returns c =
    simp (c.in_ok-add_bottom.ensures, c.in_ok-add_findings.ensures, c.in_ok-add_top.ensures, append_assoc) refl

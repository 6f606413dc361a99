use Rattle.std.proofs.Common.{refl, append_assoc}
use Rattle.dk_page.specs.Pages.{faults_text}
use Rattle.dk_page.proofs.whole.faults_page.Goals as goal

pub returns : goal.returns
unfolding faults_text
returns c =
    simp (c.in_ok-add_faults.ensures, c.as_bytes-2.ensures.value, c.in_ok-add_title.ensures, c.as_bytes.ensures.value, c.new-out.ensures.items, append_assoc) refl

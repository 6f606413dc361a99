use Rattle.std.proofs.Common.{refl, append_assoc}
use Rattle.dk_page.specs.Pages.{findings_text}
use Rattle.dk_page.proofs.findings.add_findings.Goals as goal

pub returns : goal.returns
unfolding findings_text
returns c =
    simp (c.in_ok-add_made.ensures, c.as_slice-5.ensures.value, c.in_ok-add_room.ensures, c.as_slice-4.ensures.value, c.as_slice-3.ensures.value, c.in_ok-add_by_when.ensures, c.in_ok-add_certification.ensures, c.as_slice-2.ensures.value, c.as_slice.ensures.value, c.certification_head-head.ensures, c.in_ok-add_configuration.ensures, append_assoc) refl

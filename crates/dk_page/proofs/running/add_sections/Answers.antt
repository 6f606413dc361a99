use Rattle.std.proofs.Common.{refl, append_assoc}
use Rattle.dk_page.specs.Runs.{run_sections}
use Rattle.dk_page.proofs.running.add_sections.Goals as goal

pub returns : goal.returns
unfolding run_sections
returns c =
    simp (c.in_ok-add_totals.ensures, c.as_slice-4.ensures.value, c.in_ok-add_windows.ensures, c.as_slice-3.ensures.value, c.as_slice-2.ensures.value, c.in_ok-add_audit.ensures, c.as_slice.ensures.value, append_assoc) refl

use Rattle.dk_page.specs.Pages.{certification}
use Rattle.dk_page.proofs.findings.add_certification.Goals as goal

pub returns : goal.returns
unfolding certification
returns c = c.add_parts.ensures

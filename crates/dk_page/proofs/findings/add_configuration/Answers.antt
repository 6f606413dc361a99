use Rattle.dk_page.specs.Pages.{configuration}
use Rattle.dk_page.proofs.findings.add_configuration.Goals as goal

pub returns : goal.returns
unfolding configuration
returns c = c.add_parts.ensures

use Rattle.dk_page.specs.Pages.{timings}
use Rattle.dk_page.proofs.findings.add_timings.Goals as goal

pub returns : goal.returns
unfolding timings
returns c = c.add_parts.ensures

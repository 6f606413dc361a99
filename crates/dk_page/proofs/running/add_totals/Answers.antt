use Rattle.dk_page.specs.Runs.{totals_section}
use Rattle.dk_page.proofs.running.add_totals.Goals as goal

pub returns : goal.returns
unfolding totals_section
returns c = c.add_parts.ensures

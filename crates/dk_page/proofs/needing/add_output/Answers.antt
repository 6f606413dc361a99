use Rattle.dk_page.specs.Needs.{needs_output}
use Rattle.dk_page.proofs.needing.add_output.Goals as goal

pub returns : goal.returns
unfolding needs_output
returns c = c.add_parts.ensures

use Rattle.dk_page.specs.Pages.{outputs}
use Rattle.dk_page.proofs.outputs.add_outputs.Goals as goal

pub returns : goal.returns
unfolding outputs
returns c = c.add_parts.ensures

use Rattle.dk_page.specs.Pages.{ending}
use Rattle.dk_page.proofs.outputs.add_ending.Goals as goal

pub returns : goal.returns
unfolding ending
returns c = c.add_parts.ensures

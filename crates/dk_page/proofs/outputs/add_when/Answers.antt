use Rattle.dk_page.specs.Pages.{when_shown}
use Rattle.dk_page.proofs.outputs.add_when.Goals as goal

pub returns : goal.returns
unfolding when_shown
returns c = c.add_parts.ensures

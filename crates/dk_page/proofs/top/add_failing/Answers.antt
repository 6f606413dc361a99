use Rattle.dk_page.specs.Pages.{failing_tile}
use Rattle.dk_page.proofs.top.add_failing.Goals as goal

pub returns : goal.returns
unfolding failing_tile
returns c = c.add_parts.ensures

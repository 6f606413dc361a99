use Rattle.dk_page.specs.Pages.{faulty}
use Rattle.dk_page.proofs.whole.add_faults.Goals as goal

pub returns : goal.returns
unfolding faulty
returns c = c.add_parts.ensures

use Rattle.dk_page.specs.Runs.{undrawn}
use Rattle.dk_page.proofs.running.add_undrawn.Goals as goal

pub returns : goal.returns
unfolding undrawn
returns c = c.add_parts.ensures

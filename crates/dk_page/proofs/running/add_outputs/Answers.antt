use Rattle.dk_page.specs.Runs.{run_outputs}
use Rattle.dk_page.proofs.running.add_outputs.Goals as goal

pub returns : goal.returns
unfolding run_outputs
returns c = c.add_parts.ensures

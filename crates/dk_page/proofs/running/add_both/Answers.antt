use Rattle.dk_page.specs.Runs.{both_names}
use Rattle.dk_page.proofs.running.add_both.Goals as goal

pub returns : goal.returns
unfolding both_names
returns c = c.add_parts.ensures

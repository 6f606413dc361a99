use Rattle.dk_page.specs.More.{repeats_output}
use Rattle.dk_page.proofs.repeating.add_output.Goals as goal

pub returns : goal.returns
unfolding repeats_output
returns c = c.add_parts.ensures

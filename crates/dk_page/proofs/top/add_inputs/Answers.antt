use Rattle.dk_page.specs.Pages.{inputs}
use Rattle.dk_page.proofs.top.add_inputs.Goals as goal

pub returns : goal.returns
unfolding inputs
returns c = c.add_parts.ensures

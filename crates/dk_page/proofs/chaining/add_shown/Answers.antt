use Rattle.dk_page.specs.More.{chain_shown}
use Rattle.dk_page.proofs.chaining.add_shown.Goals as goal

pub returns : goal.returns
unfolding chain_shown
returns c = c.add_parts.ensures

use Rattle.dk_page.specs.More.{not_repeating_tile}
use Rattle.dk_page.proofs.repeating.add_not_repeating.Goals as goal

pub returns : goal.returns
unfolding not_repeating_tile
returns c = c.add_parts.ensures

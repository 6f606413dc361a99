use Rattle.dk_page.specs.More.{name_and_ticks}
use Rattle.dk_page.proofs.repeating.add_name_and_ticks.Goals as goal

pub returns : goal.returns
unfolding name_and_ticks
returns c = c.add_parts.ensures

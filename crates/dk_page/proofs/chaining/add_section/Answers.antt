use Rattle.dk_page.specs.More.{chains_section}
use Rattle.dk_page.proofs.chaining.add_section.Goals as goal

pub returns : goal.returns
unfolding chains_section
returns c = c.add_parts.ensures

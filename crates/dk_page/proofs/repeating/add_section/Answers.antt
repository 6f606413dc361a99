use Rattle.dk_page.specs.More.{repeats_section}
use Rattle.dk_page.proofs.repeating.add_section.Goals as goal

pub returns : goal.returns
unfolding repeats_section
returns c = c.add_parts.ensures

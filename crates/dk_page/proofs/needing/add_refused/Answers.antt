use Rattle.dk_page.specs.Needs.{refused_section}
use Rattle.dk_page.proofs.needing.add_refused.Goals as goal

pub returns : goal.returns
unfolding refused_section
returns c = c.add_parts.ensures

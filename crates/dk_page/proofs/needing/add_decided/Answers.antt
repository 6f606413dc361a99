use Rattle.dk_page.specs.Needs.{decided_section}
use Rattle.dk_page.proofs.needing.add_decided.Goals as goal

pub returns : goal.returns
unfolding decided_section
returns c = c.add_parts.ensures

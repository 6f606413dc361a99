use Rattle.dk_page.specs.Pages.{title}
use Rattle.dk_page.proofs.top.add_title.Goals as goal

pub returns : goal.returns
unfolding title
returns c = c.add_parts.ensures

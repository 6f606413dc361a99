use Rattle.dk_page.specs.Pages.{warnings_tile}
use Rattle.dk_page.proofs.top.add_warnings_tile.Goals as goal

pub returns : goal.returns
unfolding warnings_tile
returns c = c.add_parts.ensures

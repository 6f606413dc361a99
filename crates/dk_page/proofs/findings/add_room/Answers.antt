use Rattle.dk_page.specs.Pages.{room}
use Rattle.dk_page.proofs.findings.add_room.Goals as goal

pub returns : goal.returns
unfolding room
returns c = c.add_parts.ensures

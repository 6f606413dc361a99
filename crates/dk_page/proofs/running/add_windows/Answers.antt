use Rattle.dk_page.specs.Runs.{windows_section}
use Rattle.dk_page.proofs.running.add_windows.Goals as goal

pub returns : goal.returns
unfolding windows_section
returns c = c.add_parts.ensures

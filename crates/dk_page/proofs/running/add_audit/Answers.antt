use Rattle.dk_page.specs.Runs.{audit_sections}
use Rattle.dk_page.proofs.running.add_audit.Goals as goal

pub returns : goal.returns
unfolding audit_sections
returns c = c.add_parts.ensures

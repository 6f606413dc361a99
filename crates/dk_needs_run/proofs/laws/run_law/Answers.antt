use Rattle.dk_needs_run.proofs.RowsMet.{exact}
use Rattle.dk_needs_run.proofs.laws.run_law.Goals as goal

pub returns : goal.returns
returns c = exact c.one_finding.ensures

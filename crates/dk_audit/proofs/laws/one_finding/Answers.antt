use Rattle.dk_audit.proofs.One.{one}
use Rattle.dk_audit.proofs.laws.one_finding.Goals as goal

pub returns : goal.returns
returns c = one

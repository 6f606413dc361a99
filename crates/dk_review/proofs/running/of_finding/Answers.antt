use Rattle.std.proofs.Common.{◌≡◌}
use Rattle.dk_audit.specs.declared.finding.Finding.{Finding}
use Rattle.dk_review.proofs.Faults.{of_none}
use Rattle.dk_review.proofs.running.of_finding.Goals as goal

pub returns-clause-fault : goal.returns-clause-fault
returns-clause-fault c =
    of_none (c.args.finding ≡ Finding.Header) c.args.range c.args.bytes.now c.told_by.result c.told_by.ensures.fault

use Rattle.std.proofs.Common.{inl, inr}
use Rattle.show_impact.proofs.Others.{apart}
use Rattle.show_impact.proofs.comparing.impacts.Goals as goal

pub returns-clause-stands : goal.returns-clause-stands
returns-clause-stands c p q (inl same) = c.evidence_stands.ensures p q same
returns-clause-stands c p q (inr waits) = c.evidence_stays.ensures p q waits

pub returns-clause-apart : goal.returns-clause-apart
returns-clause-apart c = apart c.args.old.now c.args.new.now

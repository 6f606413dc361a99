use Rattle.dk_audit.proofs.Accepted.{not-fails}
use Rattle.dk_audit.proofs.heading.is_own_heading.Goals as goal

pub unreachable-requires : goal.unreachable-requires
unreachable-requires c = not-fails c.args.config.now c.requires.accepted _ _ _ c.in-Fails.ensures.verdict

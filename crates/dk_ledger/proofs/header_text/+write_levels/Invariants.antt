use Rattle.dk_ledger.proofs.Names.{length}
use Rattle.dk_ledger.proofs.header_text.+write_levels.Given as goal

abbrev pub decreases-write_levels : goal.decreases-write_levels
decreases-write_levels g l = length l.rows.now

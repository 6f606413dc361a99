use Rattle.dk_mutex.proofs.Owed.{taken-none}
use Rattle.dk_mutex.proofs.rows.Rows.of.Goals as goal

pub returns : goal.returns
returns c = taken-none _ c.args.rows.items

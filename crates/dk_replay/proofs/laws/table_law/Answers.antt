use Rattle.dk_replay.proofs.Tables.{table_takes}
use Rattle.dk_replay.proofs.laws.table_law.Goals as goal

pub returns : goal.returns
returns c = table_takes c.jobs_law.ensures.jobs c.jobs_law.ensures.within c.jobs_law.ensures.ticks

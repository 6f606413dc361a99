use Rattle.dk_recount.proofs.Stop.Running.{thread-runs}
use Rattle.dk_recount.proofs.stop_laws.ending_threads_run.Goals as goal

pub returns : goal.returns
returns c = thread-runs c.callers_law.ensures.run c.rows_law.ensures.families c.rows_law.ensures.named c.chosen_law.ensures

use Rattle.dk_config.specs.Ahead.{process_ahead}
use Rattle.dk_when.proofs.Running.{work_step}
use Rattle.dk_when.proofs.counting.processes_ahead.Goals as goal

pub loop-other-preserved : goal.loop-other-preserved
loop-other-preserved c =
    work_step (process_ahead c.args.config.now c.args.process c.args.ticks) c.loop-other.other c.loop-other.work c.loop-other.invariant
    c.process_ahead-work.result c.process_ahead-work.ensures.work c.process_ahead-work.ensures.few

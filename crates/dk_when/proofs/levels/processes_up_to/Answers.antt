use Rattle.std.specs.Option.{option_map_or}
use Rattle.dk_config.specs.Ahead.{budgets_begun, slowest_up_to}
use Rattle.dk_when.proofs.Running.{work_step}
use Rattle.dk_when.proofs.levels.processes_up_to.Goals as goal

pub loop-process-preserved : goal.loop-process-preserved
loop-process-preserved c =
    work_step (λ q. option_map_or (budgets_begun c.args.config.now q c.args.ticks) (slowest_up_to c.args.config.now c.args.level q) 0) c.loop-process.process c.loop-process.work c.loop-process.invariant
    c.process_up_to-work.result c.process_up_to-work.ensures.work c.process_up_to-work.ensures.few

use Rattle.dk_plan.specs.Levels.{work_at}
use Rattle.dk_plan.proofs.Demands.{demand_step, whole_demand}
use Rattle.dk_growth.specs.Growth.{grown}
use Rattle.dk_growth.proofs.demands.grown_demand.Goals as goal

pub loop-faster-preserved : goal.loop-faster-preserved
loop-faster-preserved c =
    demand_step (work_at (grown c.args.config.now c.args.percent) c.args.level) c.loop-faster.faster c.loop-faster.demand c.loop-faster.invariant
    c.grown_work-demand.result c.grown_work-demand.ensures.work c.grown_work-demand.ensures.bounded

pub returns-clause-demand : goal.returns-clause-demand
returns-clause-demand c =
    whole_demand (work_at (grown c.args.config.now c.args.percent) c.args.level) c.loop-faster.faster c.loop-faster.demand c.loop-faster.invariant c.args.level
    c.loop-faster.auto.faster-end c.loop-faster-test.false

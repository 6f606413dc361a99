use Rattle.dk_plan.proofs.Names.{with_budget, work_at}
use Rattle.dk_plan.proofs.Demands.{demand_step, whole_demand}
use Rattle.dk_plan.proofs.needs.demand_of_others.Goals as goal

pub loop-faster-preserved : goal.loop-faster-preserved
loop-faster-preserved c =
    demand_step (work_at (with_budget c.args.config.now c.args.process 0) c.args.level) c.loop-faster.faster c.loop-faster.demand c.loop-faster.invariant
    c.work_of_others-demand.result c.work_of_others-demand.ensures.work c.work_of_others-demand.ensures.bounded

pub returns-clause-demand : goal.returns-clause-demand
returns-clause-demand c =
    whole_demand (work_at (with_budget c.args.config.now c.args.process 0) c.args.level) c.loop-faster.faster c.loop-faster.demand c.loop-faster.invariant c.args.level
    c.loop-faster.auto.faster-end c.loop-faster-test.false

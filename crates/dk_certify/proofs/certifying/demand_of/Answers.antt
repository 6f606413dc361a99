use Rattle.dk_certify.proofs.WorkLemmas.{demand_step, whole_demand}
use Rattle.dk_certify.proofs.certifying.demand_of.Goals as goal

pub loop-faster-preserved : goal.loop-faster-preserved
loop-faster-preserved c =
    demand_step c.args.config.now c.args.level c.loop-faster.faster c.loop-faster.demand c.work_of-demand.result c.loop-faster.invariant c.work_of-demand.ensures.work c.work_of-demand.ensures.bounded

pub returns-clause-demand : goal.returns-clause-demand
returns-clause-demand c =
    whole_demand c.args.config.now c.args.level c.loop-faster.faster c.loop-faster.demand c.loop-faster.invariant c.loop-faster.auto.faster-end c.loop-faster-test.false

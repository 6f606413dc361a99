use Rattle.dk_plan.proofs.Names.{with_budget, work_at}
use Rattle.dk_plan.proofs.Demands.{DemandSoFar}
use Rattle.dk_plan.proofs.needs.demand_of_others.Given as goal

abbrev pub invariant-loop-faster : goal.invariant-loop-faster
invariant-loop-faster l = DemandSoFar (work_at (with_budget l.config l.process 0) l.level) l.faster l.demand

use Rattle.dk_plan.specs.Levels.{work_at}
use Rattle.dk_plan.proofs.Demands.{DemandSoFar}
use Rattle.dk_growth.specs.Growth.{grown}
use Rattle.dk_growth.proofs.demands.grown_demand.Given as goal

abbrev pub invariant-loop-faster : goal.invariant-loop-faster
invariant-loop-faster l = DemandSoFar (work_at (grown l.config l.percent) l.level) l.faster l.demand

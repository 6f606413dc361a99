use Rattle.dk_certify.proofs.WorkLemmas.{DemandSoFar}
use Rattle.dk_certify.proofs.certifying.demand_of.Given as goal

abbrev pub invariant-loop-faster : goal.invariant-loop-faster
invariant-loop-faster l = DemandSoFar l.config l.level l.faster l.demand

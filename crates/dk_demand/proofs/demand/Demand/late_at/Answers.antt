use Rattle.dk_demand.proofs.Names.{ap, arith, end_at, Cells}
use Rattle.dk_demand.proofs.Waiting.{waits-before, waits-idle}
use Rattle.dk_demand.proofs.demand.Demand.late_at.Goals as goal

pub returns-then-own-eq0 : goal.returns-then-own-eq0
returns-then-own-eq0 c = waits-idle _ c.args.self.now c.args.level (omega arith)

pub returns-in-Some : goal.returns-in-Some
returns-in-Some c =
    let ends = ap (λ (d : Cells). end_at d.windows c.args.level) c.self.view_is in
    waits-before _ c.in-Some.last c.args.self.now c.args.level (omega (arith, ends, c.in-Some.ensures, c.end-end.ensures, c.requires.remaining)) (omega arith)

pub returns-in-None : goal.returns-in-None
returns-in-None c = λ tick now before. absurd (omega arith)

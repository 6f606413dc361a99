use Rattle.dk_plan.proofs.Names.{arith}
use Rattle.dk_plan.proofs.Claims.{asks_for}
use Rattle.dk_plan.proofs.Bases.{least_of_all}
use Rattle.dk_plan.proofs.harmonising.best_base.Goals as goal

pub returns-clause-least : goal.returns-clause-least
returns-clause-least c =
    least_of_all c.args.asks.now c.args.lo c.args.hi c.max.result c.best_from.result c.requires.some c.requires.asks (λ p a b. omega arith) c.best_from.ensures.least

pub returns-clause-asks : goal.returns-clause-asks
returns-clause-asks c = asks_for c.args.hi c.best_from.result c.args.asks.now c.best_from.ensures.to_hi c.requires.asks

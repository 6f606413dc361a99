use Rattle.std.proofs.Common.{arith, subst, sym}
use Rattle.dk_config.specs.Windows.{budget}
use Rattle.dk_when.specs.Earliest.{MayHave}
use Rattle.dk_when.proofs.Soonest.{soon-enough}
use Rattle.dk_when.proofs.earliest.done_from.Goals as goal

pub returns-clause-sooner : goal.returns-clause-sooner
returns-clause-sooner c =
    let config = c.args.config.now in
    let least = c.requires.checked.budgets c.args.process c.requires.exists in
    λ f enough. c.least_room.ensures.least f (subst (λ k. MayHave config c.args.process k f) (sym c.place_of.ensures.budget)
    (soon-enough config c.args.process (budget config c.args.process) f c.requires.checked c.requires.exists (omega (arith, least)) enough))

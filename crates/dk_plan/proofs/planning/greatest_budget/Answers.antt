use Rattle.dk_plan.proofs.Names.{ap, arith, with_budget}
use Rattle.dk_plan.proofs.Accepting.{accepted_from, certified_from}
use Rattle.dk_plan.proofs.Unbroken.{unbroken-with, room_needed}
use Rattle.dk_plan.proofs.planning.greatest_budget.Goals as goal

pub returns-in_err-most-clause-no_greater : goal.returns-in_err-most-clause-no_greater
returns-in_err-most-clause-no_greater c =
    λ b more few have. c.in_err-most.ensures.none b (accepted_from (with_budget c.args.config.now c.args.process b) have.certified)

pub returns-then-most-config-clause-no_greater : goal.returns-then-most-config-clause-no_greater
returns-then-most-config-clause-no_greater c =
    λ b more few have.
    (let within = (c.in_ok-most.ensures.limit b few).0 (accepted_from (with_budget c.args.config.now c.args.process b) have.certified) in
    let least = room_needed c.args.config.now c.args.process b c.requires.exists have.unbroken in
    let switch = ap (λ v. v.costs.switch) c.config.view_is in
    omega (arith, within, least, switch))

pub returns-clause-reached : goal.returns-clause-reached
returns-clause-reached c =
    let config = c.args.config.now in
    let switch = ap (λ v. v.costs.switch) c.config.view_is in
    let few = c.in_ok-most.ensures.few in
    let accepted = (c.in_ok-most.ensures.limit c.in_ok-most.most few).1 (omega arith) in
    record {
      unbroken = unbroken-with config c.args.process c.in_ok-most.most c.requires.unbroken (omega (arith, switch)) few;
      certified = certified_from (with_budget config c.args.process c.in_ok-most.most) accepted;
    }

pub returns-clause-no_greater : goal.returns-clause-no_greater
returns-clause-no_greater c =
    λ b more few have.
    (let within = (c.in_ok-most.ensures.limit b few).0 (accepted_from (with_budget c.args.config.now c.args.process b) have.certified) in
    omega (arith, within, more))

use Rattle.dk_plan.proofs.Names.{arith, nat_tests}
use Rattle.dk_plan.proofs.Accepting.{if_none}
use Rattle.dk_plan.proofs.Limits.{no_budget_fits, any_budget_fits, budget_fits}
use Rattle.dk_plan.proofs.planning.most_at.Goals as goal

pub returns-in_err-room-clause-none : goal.returns-in_err-room-clause-none
returns-in_err-room-clause-none c = grind (arith, nat_tests, no_budget_fits, if_none)

pub returns-then-level-own-clause-limit : goal.returns-then-level-own-clause-limit
returns-then-level-own-clause-limit c =
    λ b few. (λ fits. few, λ within. any_budget_fits c.args.config.now c.args.process c.requires.process c.args.level b c.in_ok-room.room c.in_ok-room.ensures.room (omega arith))

pub returns-clause-limit : goal.returns-clause-limit
returns-clause-limit c = grind (arith, nat_tests, budget_fits)

use Rattle.dk_budget.proofs.Names.{◌∙◌, ap, ℕ, Option, if◌then◌else◌, is_before, sum_over}
use Rattle.dk_budget.proofs.Counting.{running-count}
use Rattle.dk_budget.proofs.starts.Starts.in_force.Goals as goal

pub returns-clause-sum : goal.returns-clause-sum
returns-clause-sum c =
    running-count c.args.self.now c.before-running.result c.before-2.result c.args.loan.now
    (λ f. c.before-running.ensures.sums f ∙ ap (λ (t : Option ℕ). sum_over c.args.self.now (λ s. if is_before t s then f s else 0)) c.wide.ensures.same)
    c.before-2.ensures.sums

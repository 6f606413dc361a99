use Rattle.dk_plan.proofs.Names.{◌≡◌, ◌≤◌, get_or, rules, arith, sym, subst, sum_by, most_budgets, budget_at, budgets_bounded}
use Rattle.dk_plan.proofs.Rows.{budgets-without}
use Rattle.dk_plan.proofs.needs.others_at.Goals as goal

pub budgets_of-requires : goal.budgets_of-requires
budgets_of-requires c =
    let bounded = budgets_bounded c.args.config.now c.args.level c.requires.limits in
    let same : c.as_slice-processes.result.now ≡ c.args.config.now.processes = search rules in
    subst (λ rows. sum_by (budget_at c.args.level) rows ≤ most_budgets) (sym same) bounded

pub returns-clause-others : goal.returns-clause-others
returns-clause-others c =
    let rows = c.args.config.now.processes in
    let same : c.as_slice-processes.result.now ≡ rows = search rules in
    let own = c.index-processes-process.result in
    let is : own ≡ get_or rows c.args.process own = subst (λ xs. own ≡ get_or xs c.args.process own) same c.index-processes-process.is in
    let all : c.budgets_of.result ≡ sum_by (budget_at c.args.level) rows = subst (λ xs. c.budgets_of.result ≡ sum_by (budget_at c.args.level) xs) same c.budgets_of.ensures in
    let without = budgets-without c.args.level rows c.args.process own c.requires.exists is in
    omega (arith, all, without)

pub returns-clause-bounded : goal.returns-clause-bounded
returns-clause-bounded c =
    let rows = c.args.config.now.processes in
    let same : c.as_slice-processes.result.now ≡ rows = search rules in
    let all : c.budgets_of.result ≡ sum_by (budget_at c.args.level) rows = subst (λ xs. c.budgets_of.result ≡ sum_by (budget_at c.args.level) xs) same c.budgets_of.ensures in
    let bounded = budgets_bounded c.args.config.now c.args.level c.requires.limits in
    omega (arith, all, bounded)

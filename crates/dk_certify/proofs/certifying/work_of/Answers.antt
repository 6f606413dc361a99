use Rattle.std.proofs.Common.{◌≡◌, ◌+◌, ◌≤◌, rules, arith, sym, subst}
use Rattle.std.specs.Prelude.{sum_by, ◌==◌, if◌then◌else◌}
use Rattle.dk_certify.specs.Bounds.{most_budgets}
use Rattle.dk_config.proofs.Budgets.{budgets_bounded}
use Rattle.dk_certify.proofs.SumLemmas.{work_bounded}
use Rattle.dk_certify.proofs.certifying.work_of.Goals as goal

pub budgets_of-requires : goal.budgets_of-requires
budgets_of-requires c =
    let bounded = budgets_bounded c.args.config.now c.args.faster c.requires.limits in
    let same : c.as_slice.result.now ≡ c.args.config.now.processes = search rules in
    subst (λ rows. sum_by (λ row. if row.level == c.args.faster then row.budget else 0) rows ≤ most_budgets) (sym same) bounded

pub overflow_mul-result : goal.overflow_mul-result
overflow_mul-result c =
    let bounded = work_bounded (c.level_row-row.result.release + c.budgets_of.result) c.level_row-window.result.period c.level_row-row.result.period (omega arith) (omega arith) in
    omega (arith, bounded)

pub returns-clause-bounded : goal.returns-clause-bounded
returns-clause-bounded c =
    work_bounded (c.level_row-row.result.release + c.budgets_of.result) c.level_row-window.result.period c.level_row-row.result.period (omega arith) (omega arith)

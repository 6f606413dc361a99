use Rattle.std.proofs.Common.{rules, ◌≡◌, ◌+◌, ◌≤◌, sum_by, sym, subst, arith}
use Rattle.dk_certify.specs.Bounds.{most_budgets}
use Rattle.dk_growth.specs.Growth.{grown_at}
use Rattle.dk_growth.proofs.Needs.{bounded_work, grown_bounded}
use Rattle.dk_growth.proofs.demands.grown_work.Goals as goal

pub grown_budgets_of-requires : goal.grown_budgets_of-requires
grown_budgets_of-requires c =
    let bounded = grown_bounded c.args.config.now c.args.percent c.args.faster c.requires.grown in
    let same : c.as_slice.result.now ≡ c.args.config.now.processes = search rules in
    subst (λ rows. sum_by (grown_at c.args.percent c.args.faster) rows ≤ most_budgets) (sym same) bounded

pub overflow_add-each : goal.overflow_add-each
overflow_add-each c =
    let bounded = grown_bounded c.args.config.now c.args.percent c.args.faster c.requires.grown in
    let same : c.as_slice.result.now ≡ c.args.config.now.processes = search rules in
    let all = subst (λ rows. c.grown_budgets_of.result ≡ sum_by (grown_at c.args.percent c.args.faster) rows) same c.grown_budgets_of.ensures in
    let few = c.level_row-release.ensures.few in
    omega (arith, bounded, all, few)

pub overflow_mul-result : goal.overflow_mul-result
overflow_mul-result c =
    let bounded = grown_bounded c.args.config.now c.args.percent c.args.faster c.requires.grown in
    let same : c.as_slice.result.now ≡ c.args.config.now.processes = search rules in
    let all = subst (λ rows. c.grown_budgets_of.result ≡ sum_by (grown_at c.args.percent c.args.faster) rows) same c.grown_budgets_of.ensures in
    let few = c.level_row-release.ensures.few in
    let work = bounded_work (c.level_row-release.result.release + c.grown_budgets_of.result) c.windows_in.result (omega (arith, bounded, all, few)) c.windows_in.ensures.few in
    omega (arith, work)

pub returns-clause-bounded : goal.returns-clause-bounded
returns-clause-bounded c =
    let bounded = grown_bounded c.args.config.now c.args.percent c.args.faster c.requires.grown in
    let same : c.as_slice.result.now ≡ c.args.config.now.processes = search rules in
    let all = subst (λ rows. c.grown_budgets_of.result ≡ sum_by (grown_at c.args.percent c.args.faster) rows) same c.grown_budgets_of.ensures in
    let few = c.level_row-release.ensures.few in
    bounded_work (c.level_row-release.result.release + c.grown_budgets_of.result) c.windows_in.result (omega (arith, bounded, all, few)) c.windows_in.ensures.few

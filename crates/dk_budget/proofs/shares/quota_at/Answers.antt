use Rattle.dk_budget.proofs.Names.{◌≤◌, ◌*◌, ◌/◌, ◌^◌, ◌∙◌, ap, arith, mul-le-mul, MAX_SPAN, period_in}
use Rattle.dk_budget.proofs.Finding.{read-period}
use Rattle.dk_budget.proofs.shares.quota_at.Goals as goal

pub overflow_mul-ticks : goal.overflow_mul-ticks
overflow_mul-ticks c =
    let few : c.args.quota ≤ 2 ^ 32 = omega arith in
    let short : c.ticks.result ≤ MAX_SPAN = c.ticks.ensures.short in
    omega (arith, mul-le-mul few short)

pub windows_in-requires : goal.windows_in-requires
windows_in-requires c =
    let few : c.args.quota ≤ 2 ^ 32 = omega arith in
    let short : c.ticks.result ≤ MAX_SPAN = c.ticks.ensures.short in
    omega (arith, mul-le-mul few short)

pub returns : goal.returns
returns c =
    let periods = c.args.periods.now.items in
    let child = read-period periods c.deref.result.now c.args.level c.index-deref-level.result c.deref.ensures.0 c.requires.level c.index-deref-level.is in
    let main = read-period periods c.deref-2.result.now c.args.main c.index-deref-main.result c.deref-2.ensures.0 c.requires.main c.index-deref-main.is in
    c.windows_in.ensures
    ∙ ap (λ n. (c.args.quota * n) / c.index-deref-main.result) (c.ticks.ensures.length ∙ child)
    ∙ ap (λ n. (c.args.quota * period_in periods c.args.level) / n) main

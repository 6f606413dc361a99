use Rattle.std.proofs.Common.{◌+◌, ◌<◌, length, sym, rules, arith, subst}
use Rattle.dk_certify.proofs.VerdictLemmas.{TableSoFar, table_step, whole_table, failed_table}
use Rattle.dk_certify.proofs.certifying.certify.Goals as goal

pub overflow_cast-level : goal.overflow_cast-level
overflow_cast-level c =
    let few = c.requires.limits.few_levels in
    grind (arith, few)

pub overflow_cast-result : goal.overflow_cast-result
overflow_cast-result c =
    let few = c.requires.limits.few_levels in
    grind (arith, few)

pub returns-then-needs-window-clause-verdict : goal.returns-then-needs-window-clause-verdict
returns-then-needs-window-clause-verdict c =
    let inside : c.loop-level.level < length c.args.config.now.levels = search rules in
    failed_table c.args.config.now c.loop-level.level c.loop-level.table c.loop-level.invariant _ c.demand_of-demand.result c.longest_delay-blocking.result
    c.level_row-window.ensures.period c.demand_of-demand.ensures.demand (search rules) inside c.if-needs-window.true

pub push-requires : goal.push-requires
push-requires c =
    let few = c.requires.limits.few_levels in
    grind (arith, few)

pub loop-level-preserved : goal.loop-level-preserved
loop-level-preserved c =
    let inside : c.loop-level.level < length c.args.config.now.levels = search rules in
    let step = table_step c.args.config.now c.loop-level.level c.loop-level.table c.loop-level.invariant _ c.demand_of-demand.result c.longest_delay-blocking.result
    c.level_row-window.ensures.period c.demand_of-demand.ensures.demand (search rules) c.if-needs-window.false in
    subst (λ table. TableSoFar c.args.config.now (c.loop-level.level + 1) table) (sym c.push.ensures) step

pub returns-clause-verdict : goal.returns-clause-verdict
returns-clause-verdict c =
    whole_table c.args.config.now c.loop-level.level c.loop-level.table c.loop-level.invariant (search rules)

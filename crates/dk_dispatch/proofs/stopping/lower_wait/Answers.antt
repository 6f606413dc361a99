use Rattle.dk_dispatch.proofs.Names.{◌≡◌, ◌∙◌, ap, sym, arith, by_level, at_level, less, held-none}
use Rattle.dk_dispatch.proofs.stopping.lower_wait.Goals as goal

pub returns-else-less-gt0-clause-cells : goal.returns-else-less-gt0-clause-cells
returns-else-less-gt0-clause-cells g c =
    let none : c.args.less ≡ 0 = omega (arith, c.if-less-gt0.false) in
    ap (λ ns. record c.args.demand.now { blocking = ns }) (held-none c.args.level c.args.demand.now.blocking)
    ∙ ap (λ n. record c.args.demand.now { blocking = by_level (at_level c.args.level (less n)) c.args.demand.now.blocking }) (sym none)

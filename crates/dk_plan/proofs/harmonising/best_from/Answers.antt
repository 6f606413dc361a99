use Rattle.dk_plan.proofs.Names.{◌+◌, arith, subst, sym, refl}
use Rattle.dk_plan.proofs.Claims.{base_short, asks_for}
use Rattle.dk_plan.proofs.Bases.{BestSoFar, better, worse, below_otherwise}
use Rattle.dk_plan.proofs.harmonising.best_from.Goals as goal
use Rattle.dk_plan.proofs.harmonising.best_from.Goals.{then-is_at_most, else-is_at_most}

pub overflow_step-base : goal.overflow_step-base
overflow_step-base c = let short = base_short c.args.hi c.args.asks.now c.requires.asks in omega (arith, short)

pub overflow_add-base-end : goal.overflow_add-base-end
overflow_add-base-end c = let short = base_short c.args.hi c.args.asks.now c.requires.asks in omega (arith, short)

pub loop-base-preserved : goal.loop-base-preserved
loop-base-preserved c =
    let asks = c.args.asks.now in
    let first = c.args.lo in
    let base = c.loop-base.base in
    let best = c.loop-base.best in
    let least = c.loop-base.least in
    let next = c.utilisation-next.result in
    let are = asks_for c.args.hi base asks (omega arith) c.requires.asks in
    elim c.if-is_at_most.branch [
      | then-is_at_most w ↦
          let step = better asks first base best least next c.requires.some are c.loop-base.invariant c.utilisation-next.ensures.exact c.utilisation-next.ensures.positive (w.if-is_at_most.ensures.0 refl) in
          subst (λ b. BestSoFar asks first (base + 1) b c.if-is_at_most.least) (sym w.best-is) (subst (λ f. BestSoFar asks first (base + 1) base f) (sym w.least-is) step)
      | else-is_at_most w ↦
          let step = worse asks first base best least next c.requires.some are c.loop-base.invariant c.utilisation-next.ensures.exact c.utilisation-next.ensures.positive (below_otherwise least next w.if-is_at_most.ensures.1) in
          subst (λ b. BestSoFar asks first (base + 1) b c.if-is_at_most.least) (sym w.best-is) (subst (λ f. BestSoFar asks first (base + 1) best f) (sym w.least-is) step)
    ]

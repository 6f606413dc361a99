use Rattle.dk_dispatch.proofs.Names.{◌≡◌, ◌<◌, ◌≤◌, ◌∙◌, get_or, ap, sym, arith, left_up_to, Cells, by_level, at_level, less, freed-more, freed-none, unfreed-at}
use Rattle.dk_dispatch.proofs.stopping.free_levels.Goals as goal

pub loop-faster-init : goal.loop-faster-init
loop-faster-init g c = record {
  cells = ap (λ ns. record c.args.demand.now { blocking = ns }) (sym (freed-none c.args.id c.args.mutexes.now c.args.demand.now.blocking));
  steps = omega arith;
}

pub lower_wait-requires-clause-low : goal.lower_wait-requires-clause-low
lower_wait-requires-clause-low g c =
    let k = c.loop-faster.faster in
    let rows = c.args.mutexes.now in
    let ns = c.args.demand.now.blocking in
    let within : k < c.args.level = omega (arith, c.loop-faster-test.true) in
    let here : left_up_to c.args.id k rows ≤ get_or ns k 0 = c.requires.low k within in
    let at : get_or c.loop-faster.demand.blocking k 0 ≡ get_or ns k 0 =
    ap (λ (d : Cells). get_or d.blocking k 0) c.loop-faster.invariant.cells ∙ unfreed-at c.args.id k rows ns in
    omega (arith, c.left_up_to.ensures, here, at)

pub loop-faster-preserved : goal.loop-faster-preserved
loop-faster-preserved g c =
    let k = c.loop-faster.faster in
    let x = c.args.id in
    let rows = c.args.mutexes.now in
    let before = c.loop-faster.invariant.steps in
    let more = c.lower_wait.ensures.steps in
    record {
      cells =
          c.lower_wait.ensures.cells
          ∙ ap (λ n. record c.loop-faster.demand { blocking = by_level (at_level k (less n)) c.loop-faster.demand.blocking }) c.left_up_to.ensures
          ∙ ap (λ (d : Cells). record d { blocking = by_level (at_level k (less (left_up_to x k rows))) d.blocking }) c.loop-faster.invariant.cells
          ∙ ap (λ ns. record c.args.demand.now { blocking = ns }) (freed-more x k rows c.args.demand.now.blocking);
      steps = omega (arith, before, more);
    }

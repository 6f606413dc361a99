use Rattle.dk_demand.proofs.Names.{◌≡◌, ◌≤◌, ◌<◌, ◌∙◌, length, get_or, refl, ap, arith, rules, adjusted}
use Rattle.dk_demand.proofs.Changing.{between-start, between-next, between-more, between-stop}
use Rattle.dk_demand.proofs.cells.adjust_between.Goals as goal

pub loop-blocked-init : goal.loop-blocked-init
loop-blocked-init g c = record {
  cells = between-start (adjusted c.args.less c.args.more) c.args.cells.now c.args.levels.start;
  past = omega arith;
  steps = omega arith;
}

pub adjusted-requires-clause-low : goal.adjusted-requires-clause-low
adjusted-requires-clause-low g c =
    let below : c.loop-blocked.blocked < length c.args.cells.now = omega arith in
    let past : c.args.levels.start ≤ c.loop-blocked.blocked = omega arith in
    let same : get_or c.loop-blocked.cells c.loop-blocked.blocked 0 ≡ get_or c.args.cells.now c.loop-blocked.blocked 0 =
    ap (λ ns. get_or ns c.loop-blocked.blocked 0) c.loop-blocked.invariant.cells
    ∙ between-next (adjusted c.args.less c.args.more) c.args.cells.now c.args.levels.start c.loop-blocked.blocked below in
    rw same (c.requires.low c.loop-blocked.blocked past c.loop-blocked-test.true)

pub overflow_cast-cells-in-loop-blocked : goal.overflow_cast-cells-in-loop-blocked
overflow_cast-cells-in-loop-blocked g c =
    let below : c.loop-blocked.blocked < length c.args.cells.now = omega arith in
    let past : c.args.levels.start ≤ c.loop-blocked.blocked = omega arith in
    let same : get_or c.loop-blocked.cells c.loop-blocked.blocked 0 ≡ get_or c.args.cells.now c.loop-blocked.blocked 0 =
    ap (λ ns. get_or ns c.loop-blocked.blocked 0) c.loop-blocked.invariant.cells
    ∙ between-next (adjusted c.args.less c.args.more) c.args.cells.now c.args.levels.start c.loop-blocked.blocked below in
    let fits : 0 < c.args.more → c.adjusted.result < 4294967296 = λ some.
    rw (c.adjusted.ensures, same) (c.requires.high some c.loop-blocked.blocked past c.loop-blocked-test.true) in
    search (rules, fits)

pub loop-blocked-preserved : goal.loop-blocked-preserved
loop-blocked-preserved g c =
    let below : c.loop-blocked.blocked < length c.args.cells.now = omega arith in
    let past : c.args.levels.start ≤ c.loop-blocked.blocked = omega arith in
    let before = c.loop-blocked.invariant.cells in
    let same : get_or c.loop-blocked.cells c.loop-blocked.blocked 0 ≡ get_or c.args.cells.now c.loop-blocked.blocked 0 =
    ap (λ ns. get_or ns c.loop-blocked.blocked 0) before
    ∙ between-next (adjusted c.args.less c.args.more) c.args.cells.now c.args.levels.start c.loop-blocked.blocked below in
    record {
      cells = rw (c.adjusted.ensures, same, before)
          (between-more (adjusted c.args.less c.args.more) c.args.cells.now c.args.levels.start c.loop-blocked.blocked _ past below refl);
      past = omega arith;
      steps = omega (arith, c.loop-blocked.invariant.steps);
    }

pub returns-clause-cells : goal.returns-clause-cells
returns-clause-cells g c =
    c.loop-blocked.invariant.cells
    ∙ between-stop (adjusted c.args.less c.args.more) c.args.cells.now c.args.levels.start c.loop-blocked.blocked c.args.levels.end
    c.loop-blocked-test.false c.loop-blocked.invariant.past

pub returns-clause-steps : goal.returns-clause-steps
returns-clause-steps g c = omega (arith, c.loop-blocked.invariant.steps, c.loop-blocked.invariant.past, c.loop-blocked-test.false)

use Rattle.dk_dispatch.proofs.Names.{◌≡◌, ◌<◌, ◌≤◌, ◌∙◌, ℕ, length, get_or, ap, sym, arith, future_shares, Cells, by_level, at_level, less}
use Rattle.dk_dispatch.proofs.Losing.{lost-more, lost-none, lost-all, unlost-at}
use Rattle.dk_dispatch.proofs.process.lose_shares.Goals as goal

pub loop-level-init : goal.loop-level-init
loop-level-init g c = record {
  cells = ap (λ ns. record c.args.demand.now { remaining = ns }) (sym (lost-none (future_shares c.args.loans.now c.args.demand.now.windows c.args.process) c.args.demand.now.remaining));
  steps = omega arith;
}

pub lower_need-requires-clause-low : goal.lower_need-requires-clause-low
lower_need-requires-clause-low g c =
    let k = c.loop-level.level in
    let b = c.args.loans.now in
    let p = c.args.process in
    let d = c.args.demand.now in
    let f : ℕ → ℕ = future_shares b d.windows p in
    let clock : c.windows.result.now ≡ d.windows = c.windows.ensures ∙ ap (λ (z : Cells). z.windows) c.loop-level.invariant.cells in
    let lost : c.future_shares-lost.result ≡ f k = c.future_shares-lost.ensures.shares ∙ ap (λ w. future_shares b w p k) clock in
    let within : k < c.args.levels = omega (arith, c.loop-level-test.true) in
    let low : f k ≤ get_or d.remaining k 0 = c.requires.low k within in
    let inside : k < length d.remaining = omega (arith, within, c.requires.levels, c.requires.each) in
    let at : get_or c.loop-level.demand.remaining k 0 ≡ get_or d.remaining k 0 =
    ap (λ (z : Cells). get_or z.remaining k 0) c.loop-level.invariant.cells ∙ unlost-at f k d.remaining inside in
    omega (arith, lost, low, at)

pub loop-level-preserved : goal.loop-level-preserved
loop-level-preserved g c =
    let k = c.loop-level.level in
    let b = c.args.loans.now in
    let p = c.args.process in
    let d = c.args.demand.now in
    let f : ℕ → ℕ = future_shares b d.windows p in
    let clock : c.windows.result.now ≡ d.windows = c.windows.ensures ∙ ap (λ (z : Cells). z.windows) c.loop-level.invariant.cells in
    let lost : c.future_shares-lost.result ≡ f k = c.future_shares-lost.ensures.shares ∙ ap (λ w. future_shares b w p k) clock in
    let before = c.loop-level.invariant.steps in
    let more = c.lower_need.ensures.steps in
    record {
      cells =
          c.lower_need.ensures.cells
          ∙ ap (λ n. record c.loop-level.demand { remaining = by_level (at_level k (less n)) c.loop-level.demand.remaining }) lost
          ∙ ap (λ (z : Cells). record z { remaining = by_level (at_level k (less (f k))) z.remaining }) c.loop-level.invariant.cells
          ∙ ap (λ ns. record d { remaining = ns }) (lost-more f k d.remaining);
      steps = omega (arith, before, more);
    }

pub returns-clause-cells : goal.returns-clause-cells
returns-clause-cells g c =
    let d = c.args.demand.now in
    let f : ℕ → ℕ = future_shares c.args.loans.now d.windows c.args.process in
    let past : c.args.levels ≤ c.loop-level.level = omega (arith, c.loop-level-test.false) in
    let all : length d.remaining ≤ c.loop-level.level = omega (arith, past, c.requires.levels, c.requires.each) in
    c.loop-level.invariant.cells ∙ ap (λ ns. record d { remaining = ns }) (lost-all f c.loop-level.level d.remaining all)

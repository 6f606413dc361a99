use Rattle.dk_demand.proofs.Names.{◌≡◌, ◌<◌, ◌≤◌, ◌+◌, ◌%◌, ◌^◌, ◌∙◌, length, get_or, ap, arith, slice_index, sum_by_more, Cells, is_unfit, run_up_to, at_tick}
use Rattle.dk_demand.proofs.Searching.{find-next, find-none}
use Rattle.dk_demand.proofs.Running.{remaining-read, run-more}
use Rattle.dk_demand.proofs.demand.Demand.first_late.Goals as goal

pub late_at-requires-clause-remaining : goal.late_at-requires-clause-remaining
late_at-requires-clause-remaining c =
    let d = c.self.inside in
    let level = c.loop-level.level in
    let inside : level < length d.gone.items = omega (arith, c.self.invariant.0, c.self.invariant.1, c.loop-level-test.true, c.len-level-end.ensures.value) in
    let known : level < length d.remaining.items = omega (arith, c.self.invariant.0, c.self.invariant.2, inside) in
    let read : get_or c.deref.result.now level 0 ≡ get_or d.gone.items level 0 = ap (λ ns. get_or ns level 0) c.deref.ensures.0 in
    let before = c.loop-level.invariant.run in
    let more = run-more d.gone.items level inside in
    let ran : (c.loop-level.run + get_or c.deref.result.now level 0) % 2 ^ 64 ≡ run_up_to level d.gone.items % 2 ^ 64 = omega (arith, read, before, more) in
    c.ahead-remaining.ensures
    ∙ remaining-read d.gone.items d.remaining.items c.deref-in-loop-level.result.now level _ c.deref-in-loop-level.ensures.0 ran known
    ∙ ap (λ (d : Cells). slice_index d.remaining level) c.self.view_is

pub loop-level-preserved : goal.loop-level-preserved
loop-level-preserved c =
    let d = c.self.inside in
    let level = c.loop-level.level in
    let levels = ap (λ (d : Cells). length d.windows.periods) c.self.view_is in
    let known : level < length d.gone.items = omega (arith, c.self.invariant.0, c.self.invariant.1, c.loop-level-test.true, c.len-level-end.ensures.value) in
    let inside : level < length c.args.self.now.windows.periods = omega (arith, levels, c.self.invariant.0, known) in
    let read : get_or c.deref.result.now level 0 ≡ get_or d.gone.items level 0 = ap (λ ns. get_or ns level 0) c.deref.ensures.0 in
    let before = c.loop-level.invariant.run in
    let more = sum_by_more (λ n. n) d.gone.items level 0 known in
    let least = c.min-first.ensures in
    record {
      run = omega (arith, read, before, more);
      left = λ tick now early.
          c.loop-level.invariant.left tick now (omega (arith, early, least))
          ∙ find-next (is_unfit (at_tick c.args.self.now tick)) level (length c.args.self.now.windows.periods) inside
          (c.late_at.ensures tick now (omega (arith, early, least)));
    }

pub late_at-requires-clause-known : goal.late_at-requires-clause-known
late_at-requires-clause-known c =
    let levels = ap (λ (d : Cells). length d.windows.periods) c.self.view_is in
    omega (arith, levels, c.self.invariant.1, c.loop-level-test.true, c.len-level-end.ensures.value)

pub returns : goal.returns
returns c = λ tick now early.
    let levels = ap (λ (d : Cells). length d.windows.periods) c.self.view_is in
    let past : length c.args.self.now.windows.periods ≤ c.loop-level.level = omega (arith, levels, c.self.invariant.1, c.loop-level-test.false, c.len-level-end.ensures.value) in
    c.loop-level.invariant.left tick now early
    ∙ find-none (is_unfit (at_tick c.args.self.now tick)) c.loop-level.level (length c.args.self.now.windows.periods) past

use Rattle.dk_demand.proofs.Names.{◌≡◌, ◌<◌, ◌≤◌, ◌+◌, ◌%◌, ◌^◌, ◌∙◌, true, false, length, get_or, ap, sym, arith, slice_index, sum_by_more, Cells, is_unfit, run_up_to}
use Rattle.dk_demand.proofs.Searching.{find-here, find-next, find-none}
use Rattle.dk_demand.proofs.Running.{remaining-read, run-more}
use Rattle.dk_demand.proofs.demand.Demand.first_unfit.Goals as goal

pub is_unfit-requires-clause-remaining : goal.is_unfit-requires-clause-remaining
is_unfit-requires-clause-remaining c =
    let d = c.self.inside in
    let level = c.loop-level.level in
    let inside : level < length d.gone.items = omega (arith, c.self.invariant.0, c.self.invariant.1, c.loop-level-test.true, c.len-level-end.ensures.value) in
    let known : level < length d.remaining.items = omega (arith, c.self.invariant.0, c.self.invariant.2, inside) in
    let read : get_or c.deref.result.now level 0 ≡ get_or d.gone.items level 0 = ap (λ ns. get_or ns level 0) c.deref.ensures.0 in
    let before = c.loop-level.invariant.run in
    let more = run-more d.gone.items level inside in
    let ran : (c.loop-level.run + get_or c.deref.result.now level 0) % 2 ^ 64 ≡ run_up_to level d.gone.items % 2 ^ 64 = omega (arith, read, before, more) in
    c.ahead-remaining.ensures
    ∙ remaining-read d.gone.items d.remaining.items c.deref-in-loop-level.result.now level _ c.deref-in-loop-level.ensures.0 ran known
    ∙ ap (λ (d : Cells). slice_index d.remaining level) c.self.view_is

pub loop-level-preserved : goal.loop-level-preserved
loop-level-preserved c =
    let d = c.self.inside in
    let level = c.loop-level.level in
    let levels = ap (λ (d : Cells). length d.windows.periods) c.self.view_is in
    let known : level < length d.gone.items = omega (arith, c.self.invariant.0, c.self.invariant.1, c.loop-level-test.true, c.len-level-end.ensures.value) in
    let inside : level < length c.args.self.now.windows.periods = omega (arith, levels, c.self.invariant.0, known) in
    let fits : is_unfit c.args.self.now level ≡ false = sym c.is_unfit.ensures ∙ c.if-is_unfit.false in
    let read : get_or c.deref.result.now level 0 ≡ get_or d.gone.items level 0 = ap (λ ns. get_or ns level 0) c.deref.ensures.0 in
    let before = c.loop-level.invariant.run in
    let more = sum_by_more (λ n. n) d.gone.items level 0 known in
    record {
      run = omega (arith, read, before, more);
      left = c.loop-level.invariant.left
          ∙ find-next (is_unfit c.args.self.now) level (length c.args.self.now.windows.periods) inside fits;
    }

pub is_unfit-requires-clause-known : goal.is_unfit-requires-clause-known
is_unfit-requires-clause-known c =
    let levels = ap (λ (d : Cells). length d.windows.periods) c.self.view_is in
    omega (arith, levels, c.self.invariant.1, c.loop-level-test.true, c.len-level-end.ensures.value)

pub returns-then-is_unfit : goal.returns-then-is_unfit
returns-then-is_unfit c =
    let levels = ap (λ (d : Cells). length d.windows.periods) c.self.view_is in
    let level = c.loop-level.level in
    let inside : level < length c.args.self.now.windows.periods = omega (arith, levels, c.self.invariant.1, c.loop-level-test.true, c.len-level-end.ensures.value) in
    let unfit : is_unfit c.args.self.now level ≡ true = sym c.is_unfit.ensures ∙ c.if-is_unfit.true in
    sym (c.loop-level.invariant.left ∙ find-here (is_unfit c.args.self.now) level (length c.args.self.now.windows.periods) inside unfit)

pub returns : goal.returns
returns c =
    let levels = ap (λ (d : Cells). length d.windows.periods) c.self.view_is in
    let past : length c.args.self.now.windows.periods ≤ c.loop-level.level = omega (arith, levels, c.self.invariant.1, c.loop-level-test.false, c.len-level-end.ensures.value) in
    sym (c.loop-level.invariant.left ∙ find-none (is_unfit c.args.self.now) c.loop-level.level (length c.args.self.now.windows.periods) past)

use Rattle.dk_demand.proofs.Names.{◌<◌, ◌≤◌, ◌^◌, ◌∙◌, length, get_or, refl, ap, sym, subst, arith, slice_index, Cells, adjusted, at_level, by_level, remaining_by}
use Rattle.std.proofs.Common.{length-set}
use Rattle.dk_demand.proofs.Writing.{cells-same, put}
use Rattle.dk_demand.proofs.Running.{remaining-lowered}
use Rattle.dk_demand.proofs.demand.Demand.lower_remaining.Goals as goal

pub returns-clause-cells : goal.returns-clause-cells
returns-clause-cells g c =
    let d = c.self.inside in
    let level = c.args.level in
    let lower = c.args.ticks in
    let levels = ap (λ (d : Cells). length d.windows.periods) c.self.view_is in
    let inside : level < length d.remaining.items = omega (arith, levels, c.requires.known, c.self.invariant.2) in
    let small : lower < 2 ^ 64 = omega arith in
    let low = subst (λ (d : Cells). lower ≤ slice_index d.remaining level) (sym c.self.view_is) c.requires.low in
    cells-same _ _ _ _ _ _ _ refl
    (ap (remaining_by d.gone.items) (put d.remaining.items c.deref_mut.result.now level _ c.deref_mut.ensures.value)
    ∙ remaining-lowered d.gone.items d.remaining.items level _ lower inside (ap (λ ns. get_or ns level 0) c.deref.ensures.0) small low)
    refl
    ∙ ap (λ (d : Cells). record d { remaining = by_level (at_level level (adjusted lower 0)) d.remaining }) c.self.view_is

pub bounds-deref-level : goal.bounds-deref-level
bounds-deref-level g c =
    let levels = ap (λ (d : Cells). length d.windows.periods) c.self.view_is in
    omega (arith, levels, c.requires.known, c.self.invariant.2, ap length c.deref.ensures.0)

pub bounds-deref_mut-level : goal.bounds-deref_mut-level
bounds-deref_mut-level g c =
    let levels = ap (λ (d : Cells). length d.windows.periods) c.self.view_is in
    omega (arith, levels, c.requires.known, c.self.invariant.2, ap length c.deref_mut.ensures.value)

pub invariant_of-self : goal.invariant_of-self
invariant_of-self g c =
    let d = c.self.inside in (
      c.self.invariant.0,
      c.self.invariant.1,
      ap length (put d.remaining.items c.deref_mut.result.now c.args.level _ c.deref_mut.ensures.value) ∙ length-set d.remaining.items c.args.level _ ∙ c.self.invariant.2,
      c.self.invariant.3,
      λ tick now before. absurd (omega arith),
    )

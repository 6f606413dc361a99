use Rattle.dk_demand.proofs.Names.{◌<◌, ◌≤◌, ◌+◌, ◌%◌, ◌^◌, ◌∙◌, length, get_or, set, refl, ap, sym, subst, arith, slice_index, Cells, at_level, by_level, from_level, less, own_by, remaining_by}
use Rattle.std.proofs.Common.{length-set}
use Rattle.dk_demand.proofs.Writing.{cells-same, put}
use Rattle.dk_demand.proofs.Running.{own-gone, remaining-gone}
use Rattle.dk_demand.proofs.demand.Demand.dropped.Goals as goal

pub returns-clause-cells : goal.returns-clause-cells
returns-clause-cells g c =
    let d = c.self.inside in
    let level = c.args.level in
    let n = c.args.own in
    let levels = ap (λ (d : Cells). length d.windows.periods) c.self.view_is in
    let inside : level < length d.gone.items = omega (arith, levels, c.requires.known, c.self.invariant.0) in
    let low = subst (λ (d : Cells). n ≤ slice_index d.own level) (sym c.self.view_is) c.requires.own in
    let ran = put d.gone.items c.deref_mut.result.now level _ c.deref_mut.ensures.value
    ∙ ap (λ ns. set d.gone.items level ((get_or ns level 0 + n) % 2 ^ 64)) c.deref.ensures.0 in
    cells-same _ _ _ _ _ _ _
    (ap (λ ns. own_by ns d.own.items) ran ∙ own-gone d.gone.items level n inside d.own.items low)
    (ap (λ ns. remaining_by ns d.remaining.items) ran
    ∙ remaining-gone d.gone.items level n inside d.remaining.items
    (λ j past known. subst (λ (d : Cells). n ≤ slice_index d.remaining j) (sym c.self.view_is)
    (c.requires.remaining j past (omega (arith, levels, known, c.self.invariant.2)))))
    refl
    ∙ ap (λ (d : Cells). record d {
      own = by_level (at_level level (less n)) d.own;
      remaining = by_level (from_level level (less n)) d.remaining;
    }) c.self.view_is

pub invariant_of-self : goal.invariant_of-self
invariant_of-self g c =
    let d = c.self.inside in (
      ap length (put d.gone.items c.deref_mut.result.now c.args.level _ c.deref_mut.ensures.value) ∙ length-set d.gone.items c.args.level _ ∙ c.self.invariant.0,
      c.self.invariant.1,
      c.self.invariant.2,
      c.self.invariant.3,
      λ tick now before. absurd (omega arith),
    )

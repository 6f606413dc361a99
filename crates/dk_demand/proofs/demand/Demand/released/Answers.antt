use Rattle.dk_demand.proofs.Names.{◌<◌, ◌%◌, ◌^◌, ◌∙◌, length, get_or, refl, ap, arith, Cells, at_level, by_level, set_to, run_up_to, own_by, remaining_by}
use Rattle.std.proofs.Common.{length-set}
use Rattle.dk_demand.proofs.Writing.{cells-same, put, written}
use Rattle.dk_demand.proofs.Running.{own-marked, remaining-marked}
use Rattle.dk_demand.proofs.demand.Demand.released.Goals as goal

pub returns-clause-cells : goal.returns-clause-cells
returns-clause-cells g c =
    let d = c.self.inside in
    let level = c.args.level in
    let levels = ap (λ (d : Cells). length d.windows.periods) c.self.view_is in
    let own : level < length d.own.items = omega (arith, levels, c.requires, c.self.invariant.1) in
    let remaining : level < length d.remaining.items = omega (arith, levels, c.requires, c.self.invariant.2) in
    let blocking : level < length d.blocking.items = omega (arith, levels, c.requires, c.self.invariant.3) in
    let ran = c.run_up_to.ensures ∙ ap (λ ns. run_up_to level ns % 2 ^ 64) c.deref-2.ensures.0 in
    cells-same _ _ _ _ _ _ _
    (ap (own_by d.gone.items) (put d.own.items c.deref_mut.result.now level _ c.deref_mut.ensures.value)
    ∙ own-marked d.gone.items d.own.items level c.args.own _ own (omega arith) (ap (λ ns. get_or ns level 0) c.deref.ensures.0))
    (ap (remaining_by d.gone.items) (put d.remaining.items c.deref_mut-2.result.now level _ c.deref_mut-2.ensures.value)
    ∙ remaining-marked d.gone.items d.remaining.items level c.args.remaining _ remaining (omega arith) ran)
    (written (set_to c.args.blocking) d.blocking.items c.deref_mut-3.result.now level c.args.blocking c.deref_mut-3.ensures.value blocking refl)
    ∙ ap (λ (d : Cells). record d {
      own = by_level (at_level level (set_to c.args.own)) d.own;
      remaining = by_level (at_level level (set_to c.args.remaining)) d.remaining;
      blocking = by_level (at_level level (set_to c.args.blocking)) d.blocking;
    }) c.self.view_is

pub invariant_of-self : goal.invariant_of-self
invariant_of-self g c =
    let d = c.self.inside in
    let level = c.args.level in (
      c.self.invariant.0,
      ap length (put d.own.items c.deref_mut.result.now level _ c.deref_mut.ensures.value) ∙ length-set d.own.items level _ ∙ c.self.invariant.1,
      ap length (put d.remaining.items c.deref_mut-2.result.now level _ c.deref_mut-2.ensures.value) ∙ length-set d.remaining.items level _ ∙ c.self.invariant.2,
      ap length (put d.blocking.items c.deref_mut-3.result.now level _ c.deref_mut-3.ensures.value) ∙ length-set d.blocking.items level _ ∙ c.self.invariant.3,
      λ tick now before. absurd (omega arith),
    )

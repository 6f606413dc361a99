use Rattle.dk_demand.proofs.Names.{◌<◌, ◌∙◌, length, ap, arith, slice_index, Cells}
use Rattle.dk_demand.proofs.Running.{own-read}
use Rattle.dk_demand.proofs.demand.Demand.own.Goals as goal

pub returns : goal.returns
returns c =
    let d = c.self.inside in
    let levels = ap (λ (d : Cells). length d.windows.periods) c.self.view_is in
    let inside : c.args.level < length d.own.items = omega (arith, levels, c.requires, c.self.invariant.1) in
    c.ahead.ensures
    ∙ own-read d.gone.items d.own.items c.deref.result.now c.deref-2.result.now c.args.level c.deref.ensures.0 c.deref-2.ensures.0 inside
    ∙ ap (λ (d : Cells). slice_index d.own c.args.level) c.self.view_is

use Rattle.dk_demand.proofs.Names.{◌<◌, ◌%◌, ◌^◌, ◌∙◌, length, ap, arith, slice_index, Cells, run_up_to}
use Rattle.dk_demand.proofs.Running.{remaining-read}
use Rattle.dk_demand.proofs.demand.Demand.remaining.Goals as goal

pub returns : goal.returns
returns c =
    let d = c.self.inside in
    let levels = ap (λ (d : Cells). length d.windows.periods) c.self.view_is in
    let inside : c.args.level < length d.remaining.items = omega (arith, levels, c.requires, c.self.invariant.2) in
    c.ahead.ensures
    ∙ remaining-read d.gone.items d.remaining.items c.deref.result.now c.args.level c.run_up_to.result c.deref.ensures.0
    (c.run_up_to.ensures ∙ ap (λ ns. run_up_to c.args.level ns % 2 ^ 64) c.deref-2.ensures.0) inside
    ∙ ap (λ (d : Cells). slice_index d.remaining c.args.level) c.self.view_is

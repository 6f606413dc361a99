use Rattle.std.proofs.Common.{◌∙◌, ◌/◌, ap}
use Rattle.dk_windows.proofs.Dividing.{windows_in-exact}
use Rattle.dk_windows.proofs.period.Period.windows_in.Goals as goal

pub returns : goal.returns
returns c =
    let p = c.self.inside in
    windows_in-exact c.args.ticks p.ticks p.reciprocal c.self.invariant c.requires ∙ ap (λ k. c.args.ticks / k) c.self.view_is

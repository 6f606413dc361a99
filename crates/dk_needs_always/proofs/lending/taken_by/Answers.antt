use Rattle.std.proofs.Common.{ℕ, ◌≡◌, ap, sym, subst}
use Rattle.dk_config.specs.Configuration.{Configuration}
use Rattle.dk_loader.specs.Workload.{Workload}
use Rattle.dk_kernel.specs.Running.{Running}
use Rattle.dk_needs_always.specs.Lending.{IsLentWatch, IsMostTaken}
use Rattle.dk_needs_always.proofs.lending.taken_by.Goals as goal

pub most_taken-requires-clause-watch : goal.most_taken-requires-clause-watch
most_taken-requires-clause-watch g c =
    let w = c.args.loaded.now in
    let config : c.loaded.inside.config ≡ w.config = ap (λ (v : Workload). v.config) c.loaded.view_is in
    let first = subst (λ (k : Configuration). IsLentWatch k w.programs 0 c.new-watch.result) config (c.new-watch.ensures.watch w.programs) in
    let early = subst (λ (v : Workload). IsLentWatch v.config v.programs 0 c.new-watch.result) (sym c.in_ok-pass.ensures.same) first in
    subst (λ (r : Running). IsLentWatch r.config r.programs 0 c.new-watch.result) (sym c.in-Ok.ensures.ok) early

pub returns-in-Ok : goal.returns-in-Ok
returns-in-Ok g c =
    let own = subst (λ (q : ℕ). IsMostTaken c.in-Ok.kernel.config c.in-Ok.kernel.programs q c.args.ticks c.most_taken.result) c.new-watch.ensures.process c.most_taken.ensures in
    let early = subst (λ (r : Running). IsMostTaken r.config r.programs c.args.process c.args.ticks c.most_taken.result) c.in-Ok.ensures.ok own in
    subst (λ (v : Workload). IsMostTaken v.config v.programs c.args.process c.args.ticks c.most_taken.result) c.in_ok-pass.ensures.same early

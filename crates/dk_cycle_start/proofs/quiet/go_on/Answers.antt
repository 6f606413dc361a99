use Rattle.dk_cycle_start.proofs.Names.{◌≡◌, ◌+◌, ◌∙◌, ap, refl, subst, OnOk, size_of}
use Rattle.dk_cycle_start.proofs.quiet.go_on.Goals as goal

pub run-requires-clause-begun : goal.run-requires-clause-begun
run-requires-clause-begun g c = (size_of c.args.kernel.now.config, refl, refl)

pub returns : goal.returns
returns g c =
    let k = c.args.kernel.now in
    let ok = c.run.ensures.taken (size_of k.config) refl in
    let all = subst (λ r. OnOk r (c.run.new.self.ticks ≡ k.ticks + c.args.ticks)) ok c.run.ensures.all in
    c.run.ensures.next ∙ ap (λ n. record k { ticks = n }) all

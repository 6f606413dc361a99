use Rattle.dk_command.proofs.Names.{◌≡◌, ◌+◌, ap, arith, refl, subst, OnOk, size_of, workload_of}
use Rattle.dk_command.proofs.inspecting.run_ticks.Goals as goal

pub run-requires-clause-begun : goal.run-requires-clause-begun
run-requires-clause-begun g c = (size_of c.args.kernel.now.config, refl, refl)

pub returns-clause-now : goal.returns-clause-now
returns-clause-now g c =
    let ok = c.run.ensures.taken (size_of c.args.kernel.now.config) refl in
    let all = subst (λ r. OnOk r (c.run.new.self.ticks ≡ c.args.kernel.now.ticks + c.args.ticks)) ok c.run.ensures.all in
    omega (arith, all, c.requires.start)

pub returns-clause-same : goal.returns-clause-same
returns-clause-same g c = ap workload_of c.run.ensures.next

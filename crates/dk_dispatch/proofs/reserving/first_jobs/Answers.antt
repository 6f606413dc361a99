use Rattle.dk_dispatch.proofs.Names.{◌≡◌, ◌∙◌, length, ap, arith, Configuration, seated}
use Rattle.dk_dispatch.proofs.reserving.first_jobs.Goals as goal

pub seat_main-requires-clause-known : goal.seat_main-requires-clause-known
seat_main-requires-clause-known g c =
    let many = ap (λ (k : Configuration). length k.processes) c.config.view_is in
    omega (arith, many, c.loop-process-test.true, c.len-processes.ensures, c.config.inside.processes.ok)

pub seat_main-requires-clause-mains : goal.seat_main-requires-clause-mains
seat_main-requires-clause-mains g c = c.loop-process.invariant

pub loop-process-preserved : goal.loop-process-preserved
loop-process-preserved g c = c.seat_main.ensures

pub returns : goal.returns
returns g c =
    let C = c.args.config.now in
    let many = ap (λ (k : Configuration). length k.processes) c.config.view_is in
    let all : c.loop-process.process ≡ length C.processes =
    omega (arith, many, c.loop-process-test.false, c.loop-process.auto.process-end, c.len-processes.ensures, c.config.inside.processes.ok) in
    c.loop-process.invariant ∙ ap (seated C) all

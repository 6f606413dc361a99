use Rattle.dk_loader.proofs.Names.{◌≡◌, rules, Err, nat_tests, arith}
use Rattle.dk_loader.specs.declared.fault.LoadFault.TheVariants as fault
use Rattle.dk_loader.proofs.ProgramLemmas.{none_read, one_more_read, refused_read, unkept_read, all_read}
use Rattle.dk_loader.proofs.programs.read_programs.Goals as goal

pub loop-p-init : goal.loop-p-init
loop-p-init g c = grind (arith, nat_tests, none_read)

pub loop-p-preserved : goal.loop-p-preserved
loop-p-preserved g c = grind (arith, nat_tests, one_more_read)

pub read_program-requires : goal.read_program-requires
read_program-requires g c = grind (arith, nat_tests)

pub returns-in_err-read_program : goal.returns-in_err-read_program
returns-in_err-read_program g c =
    let same : c.from_residual.result ≡ Err c.in_err-read_program.field-0.0 = search rules in
    rw same
    (refused_read c.args.processes.now c.loop-p.p c.index-processes-p.result c.as_str.result.now c.loop-p.programs.items (g.D.Depot.seen c.args.depot.now) (g.D.Depot.seen c.loop-p.depot) (g.D.Depot.seen c.read_program.new.depot)
    c.loop-p-test.true c.index-processes-p.is c.as_str.ensures c.loop-p.invariant
    (λ v. v.items) c.in_err-read_program.field-0.0 c.in_err-read_program.ensures)

pub returns-in_err-push : goal.returns-in_err-push
returns-in_err-push g c =
    let memory : c.from_residual-in_err-push.result ≡ Err fault.NoMemory = search rules in
    unkept_read c.args.processes.now c.loop-p.p c.index-processes-p.result c.as_str.result.now c.loop-p.programs.items (g.D.Depot.seen c.args.depot.now) (g.D.Depot.seen c.loop-p.depot) (g.D.Depot.seen c.read_program.new.depot)
    c.loop-p-test.true c.index-processes-p.is c.as_str.ensures c.loop-p.invariant
    (λ v. v.items) c.in_ok-read_program.field-0 c.from_residual-in_err-push.result memory c.in_ok-read_program.ensures

pub returns : goal.returns
returns g c =
    all_read (λ v. v.items) c.args.processes.now c.loop-p.p c.loop-p.programs (g.D.Depot.seen c.args.depot.now) (g.D.Depot.seen c.loop-p.depot)
    c.loop-p-test.false c.loop-p.invariant

use Rattle.dk_loader.proofs.Names.{rules, nat_tests, arith}
use Rattle.dk_loader.proofs.ProgramLemmas.{bytes_came}
use Rattle.dk_loader.proofs.programs.read_program.Goals as goal

pub returns-in-Ok : goal.returns-in-Ok
returns-in-Ok g c =
    bytes_came c.args.p c.args.name.now c.in-Ok.bytes.items c.program_in.result (g.D.Depot.seen c.args.depot.now) (g.D.Depot.seen c.read.new.self)
    c.in-Ok.ensures.held c.program_in.ensures.told c.program_in.ensures.given c.program_in.ensures.only (search rules) (c.in-Ok.ensures.stays (λ failed. cc)) c.in-Ok.ensures.stray c.in-Ok.ensures.strays c.in-Ok.ensures.same

pub returns-in-Err-Failed : goal.returns-in-Err-Failed
returns-in-Err-Failed g c = grind (arith, nat_tests)

pub returns-in-Err-NoMemory : goal.returns-in-Err-NoMemory
returns-in-Err-NoMemory g c = grind (arith, nat_tests)

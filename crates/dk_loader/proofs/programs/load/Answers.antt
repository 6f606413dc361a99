use Rattle.dk_loader.proofs.Names.{◌≡◌, ◌≤◌, length, rules, MAX_PROCESSES, within_limits, nat_tests, arith}
use Rattle.dk_loader.proofs.programs.load.Goals as goal

pub read_programs-requires-clause-few : goal.read_programs-requires-clause-few
read_programs-requires-clause-few g c =
    let few : length c.args.config.processes ≤ MAX_PROCESSES = (within_limits c.args.config c.requires.checked).few_processes in
    let same : c.as_slice.result.now ≡ c.args.config.processes = search rules in
    rw same few

pub returns-in-Ok : goal.returns-in-Ok
returns-in-Ok g c = grind (arith, nat_tests)

pub returns-in-Err : goal.returns-in-Err
returns-in-Err g c = grind (arith, nat_tests)

use Rattle.dk_config.specs.Tests.{each_row}
use Rattle.dk_config.specs.Rules.{process_again, mutex_again, again_tests}
use Rattle.dk_faults.proofs.Broken.{then_more}
use Rattle.dk_faults.proofs.names.add_again_faults.Goals as goal

pub returns : goal.returns
unfolding again_tests
returns c =
    let config = c.args.config.now in
    let t0 = each_row (process_again config.processes) 0 config.processes in
    let t1 = each_row (mutex_again config.mutexes) 0 config.mutexes in
    then_more c.args.found.now.items c.add_processes_again.new.found.items c.add_mutexes_again.new.found.items t0 t1 c.in_ok-add_processes_again.ensures c.in_ok-add_mutexes_again.ensures

use Rattle.dk_config.specs.Tests.{each_row}
use Rattle.dk_config.specs.Rules.{process_names, mutex_names, name_tests}
use Rattle.dk_faults.proofs.Broken.{then_more}
use Rattle.dk_faults.proofs.names.add_name_faults.Goals as goal

pub returns : goal.returns
unfolding name_tests
returns c =
    let config = c.args.config.now in
    let t0 = each_row process_names 0 config.processes in
    let t1 = each_row mutex_names 0 config.mutexes in
    then_more c.args.found.now.items c.add_process_names.new.found.items c.add_mutex_names.new.found.items t0 t1 c.in_ok-add_process_names.ensures c.in_ok-add_mutex_names.ensures

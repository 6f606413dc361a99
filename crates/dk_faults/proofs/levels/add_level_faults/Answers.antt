use Rattle.std.proofs.Common.{length}
use Rattle.dk_config.specs.Tests.{each_row}
use Rattle.dk_config.specs.Rules.{process_level, mutex_ceiling, level_tests}
use Rattle.dk_faults.proofs.Broken.{then_more}
use Rattle.dk_faults.proofs.levels.add_level_faults.Goals as goal

pub returns : goal.returns
unfolding level_tests
returns c =
    let config = c.args.config.now in
    let t0 = each_row (process_level (length config.levels)) 0 config.processes in
    let t1 = each_row (mutex_ceiling (length config.levels)) 0 config.mutexes in
    then_more c.args.found.now.items c.add_process_levels.new.found.items c.add_mutex_ceilings.new.found.items t0 t1 c.in_ok-add_process_levels.ensures c.in_ok-add_mutex_ceilings.ensures

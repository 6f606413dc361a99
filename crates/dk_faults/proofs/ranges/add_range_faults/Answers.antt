use Rattle.std.proofs.Common.{◌++◌}
use Rattle.dk_config.specs.Tests.{each_row}
use Rattle.dk_config.specs.Rules.{cost_ranges, level_ranges, process_ranges, mutex_ranges, range_tests}
use Rattle.dk_faults.proofs.Broken.{then_more}
use Rattle.dk_faults.proofs.ranges.add_range_faults.Goals as goal

pub returns : goal.returns
unfolding range_tests
returns c =
    let config = c.args.config.now in
    let t0 = cost_ranges config.costs in
    let t1 = each_row level_ranges 0 config.levels in
    let t2 = each_row process_ranges 0 config.processes in
    let t3 = each_row mutex_ranges 0 config.mutexes in
    then_more c.args.found.now.items c.add_cost_ranges.new.found.items c.add_mutex_ranges.new.found.items t0 (t1 ++ (t2 ++ t3)) c.in_ok-add_cost_ranges.ensures (
    then_more c.add_cost_ranges.new.found.items c.add_level_ranges.new.found.items c.add_mutex_ranges.new.found.items t1 (t2 ++ t3) c.in_ok-add_level_ranges.ensures (
    then_more c.add_level_ranges.new.found.items c.add_process_ranges.new.found.items c.add_mutex_ranges.new.found.items t2 t3 c.in_ok-add_process_ranges.ensures c.in_ok-add_mutex_ranges.ensures))

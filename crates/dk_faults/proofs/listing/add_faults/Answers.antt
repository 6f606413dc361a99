use Rattle.std.proofs.Common.{◌++◌, length}
use Rattle.dk_config.specs.Rules.{version_tests, count_tests, range_tests, period_tests, name_tests, again_tests, level_tests, budget_tests, user_tests, slowest_tests, all_tests}
use Rattle.dk_faults.proofs.Broken.{then_more}
use Rattle.dk_faults.proofs.listing.add_faults.Goals as goal

pub returns : goal.returns
unfolding all_tests
returns c =
    let config = c.args.config.now in
    let t0 = version_tests config.version in
    let t1 = count_tests config.version (length config.levels) (length config.processes) (length config.mutexes) in
    let t2 = range_tests config.costs config.levels config.processes config.mutexes in
    let t3 = period_tests config.levels in
    let t4 = name_tests config.processes config.mutexes in
    let t5 = again_tests config.processes config.mutexes in
    let t6 = level_tests (length config.levels) config.processes config.mutexes in
    let t7 = budget_tests config.costs.switch config.processes in
    let t8 = user_tests config.processes config.mutexes in
    let t9 = slowest_tests config.version (length config.levels) config.processes in
    then_more c.args.found.now.items c.add_version_faults.new.found.items c.add_slowest_faults.new.found.items t0 (t1 ++ (t2 ++ (t3 ++ (t4 ++ (t5 ++ (t6 ++ (t7 ++ (t8 ++ t9)))))))) c.in_ok-add_version_faults.ensures (
    then_more c.add_version_faults.new.found.items c.add_count_faults.new.found.items c.add_slowest_faults.new.found.items t1 (t2 ++ (t3 ++ (t4 ++ (t5 ++ (t6 ++ (t7 ++ (t8 ++ t9))))))) c.in_ok-add_count_faults.ensures (
    then_more c.add_count_faults.new.found.items c.add_range_faults.new.found.items c.add_slowest_faults.new.found.items t2 (t3 ++ (t4 ++ (t5 ++ (t6 ++ (t7 ++ (t8 ++ t9)))))) c.in_ok-add_range_faults.ensures (
    then_more c.add_range_faults.new.found.items c.add_period_faults.new.found.items c.add_slowest_faults.new.found.items t3 (t4 ++ (t5 ++ (t6 ++ (t7 ++ (t8 ++ t9))))) c.in_ok-add_period_faults.ensures (
    then_more c.add_period_faults.new.found.items c.add_name_faults.new.found.items c.add_slowest_faults.new.found.items t4 (t5 ++ (t6 ++ (t7 ++ (t8 ++ t9)))) c.in_ok-add_name_faults.ensures (
    then_more c.add_name_faults.new.found.items c.add_again_faults.new.found.items c.add_slowest_faults.new.found.items t5 (t6 ++ (t7 ++ (t8 ++ t9))) c.in_ok-add_again_faults.ensures (
    then_more c.add_again_faults.new.found.items c.add_level_faults.new.found.items c.add_slowest_faults.new.found.items t6 (t7 ++ (t8 ++ t9)) c.in_ok-add_level_faults.ensures (
    then_more c.add_level_faults.new.found.items c.add_budget_faults.new.found.items c.add_slowest_faults.new.found.items t7 (t8 ++ t9) c.in_ok-add_budget_faults.ensures (
    then_more c.add_budget_faults.new.found.items c.add_user_faults.new.found.items c.add_slowest_faults.new.found.items t8 t9 c.in_ok-add_user_faults.ensures c.in_ok-add_slowest_faults.ensures))))))))

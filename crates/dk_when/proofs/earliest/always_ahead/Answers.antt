use Rattle.std.proofs.Common.{◌*◌, suc, arith}
use Rattle.dk_config.specs.Windows.{main_level, release}
use Rattle.dk_when.specs.Earliest.{windows_over}
use Rattle.dk_when.proofs.Running.{whole_work, work_step}
use Rattle.dk_when.proofs.earliest.always_ahead.Goals as goal

pub returns-clause-work : goal.returns-clause-work
returns-clause-work c =
    let end = c.loop-level.auto.level-end in
    let passed = c.loop-level-test.false in
    let own = c.place_of-own.ensures.level in
    whole_work (λ i. release c.args.config.now i * windows_over c.args.config.now c.args.process i c.args.ticks) c.loop-level.level c.loop-level.work
    c.loop-level.invariant (suc (main_level c.args.config.now c.args.process)) (omega (arith, end, own)) (omega (arith, passed, own))

pub loop-level-preserved : goal.loop-level-preserved
loop-level-preserved c =
    let config = c.args.config.now in
    work_step (λ i. release config i * windows_over config c.args.process i c.args.ticks) c.loop-level.level c.loop-level.work c.loop-level.invariant
    c.release_over-work.result c.release_over-work.ensures.work c.release_over-work.ensures.few

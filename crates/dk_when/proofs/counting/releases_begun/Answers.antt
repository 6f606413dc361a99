use Rattle.std.proofs.Common.{◌*◌, suc, arith}
use Rattle.dk_config.specs.Ahead.{windows_begun}
use Rattle.dk_config.specs.Windows.{release}
use Rattle.dk_when.proofs.Running.{whole_work}
use Rattle.dk_when.proofs.counting.releases_begun.Goals as goal

pub returns-clause-work : goal.returns-clause-work
returns-clause-work c =
    let end = c.loop-level.auto.level-end in
    let passed = c.loop-level-test.false in
    whole_work (λ i. release c.args.config.now i * windows_begun c.args.config.now i c.args.ticks) c.loop-level.level c.loop-level.work c.loop-level.invariant
    (suc c.args.own) (omega (arith, end)) (omega (arith, passed))

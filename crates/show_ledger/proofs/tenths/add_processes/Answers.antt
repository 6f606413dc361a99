use Rattle.std.proofs.Common.{◌<◌, arith, length, refl}
use Rattle.dk_hold_spans.proofs.Adding.{each_added}
use Rattle.show_ledger.specs.TenthsTable.{process_told}
use Rattle.show_ledger.proofs.Placing.{told-there}
use Rattle.show_ledger.proofs.tenths.add_processes.Goals as goal

pub loop-process-preserved : goal.loop-process-preserved
loop-process-preserved c = λ past are ticks.
    let h = c.args.header.now in
    let ts = c.args.mains.now in
    let i = c.loop-process.process in
    let there : i < length ts = omega (arith, c.loop-process-test.true, c.loop-process.auto.process-end) in
    each_added (process_told h past) i c.args.out.now.items c.loop-process.out.items c.add_process.new.out.items _
    refl (c.in_ok-add_process.ensures past (told-there h past i ts _ are.each there) ticks) (c.loop-process.invariant past are ticks)

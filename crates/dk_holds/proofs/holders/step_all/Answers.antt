use Rattle.std.proofs.Common.{arith}
use Rattle.dk_holds.proofs.Stepping.{row_done, row_left}
use Rattle.dk_holds.proofs.holders.step_all.Goals as goal

pub loop-mutex-preserved : goal.loop-mutex-preserved
loop-mutex-preserved c =
    let inv = c.loop-mutex.invariant in
    let size = c.told-rows in
    let less = c.loop-mutex-test.true in
    record {
      done = row_done c.args.rows.now c.loop-mutex.rows c.loop-mutex.mutex c.args.tick c.args.entry.now c.behind.result (omega (arith, size, less)) c.behind.ensures inv.done inv.left;
      left = row_left c.args.rows.now c.loop-mutex.rows c.loop-mutex.mutex c.args.tick c.args.entry.now c.behind.result (omega (arith, size, less)) c.behind.ensures inv.done inv.left;
    }

use Rattle.dk_mutex.proofs.Names.{◌≡◌, ◌<◌, false, length, arith, fill_by_more, fill_by_all, length-set, MAX_PROCESSES, is_user}
use Rattle.dk_mutex.proofs.row.users_of.Goals as goal

pub loop-process-preserved : goal.loop-process-preserved
loop-process-preserved c =
    let room : length c.loop-process.users ≡ MAX_PROCESSES = c.loop-process.invariant.room in
    let below : c.loop-process.process < MAX_PROCESSES = c.loop-process-test.true in
    let inside : c.loop-process.process < length c.loop-process.users = omega arith in
    record {
      room = rw length-set room;
      filled = rw c.is_user.ensures (fill_by_more (λ k. is_user c.args.config.now c.args.mutex k) c.loop-process.users c.loop-process.process false inside c.loop-process.invariant.filled);
    }

pub returns : goal.returns
returns c = fill_by_all (λ k. is_user c.args.config.now c.args.mutex k) c.loop-process.users MAX_PROCESSES false c.loop-process.invariant.room
    (λ k below. c.loop-process.invariant.filled k (omega arith))

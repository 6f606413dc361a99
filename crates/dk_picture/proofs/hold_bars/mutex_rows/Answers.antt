use Rattle.dk_picture.proofs.Names.{[], refl, arith, row_of_mutex, each_added}
use Rattle.dk_picture.proofs.hold_bars.mutex_rows.Goals as goal

pub loop-mutex-preserved : goal.loop-mutex-preserved
loop-mutex-preserved c =
    let inv = c.loop-mutex.invariant in
    let more = c.in_ok-add_row.ensures.few in
    let few = inv.few in
    record {
      so_far = each_added (row_of_mutex c.args.holds.now) c.loop-mutex.mutex [] c.loop-mutex.rows.items c.add_row.new.rows.items _ refl c.in_ok-add_row.ensures.row inv.so_far;
      few = omega (arith, more, few);
    }

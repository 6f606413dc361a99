use Rattle.dk_picture.proofs.Names.{[], refl, arith, quiet_main, each_added}
use Rattle.dk_picture.proofs.row_list.quiet_mains.Goals as goal

pub loop-process-preserved : goal.loop-process-preserved
loop-process-preserved c =
    let inv = c.loop-process.invariant in
    let more = c.in_ok-add_quiet.ensures.few in
    let few = inv.few in
    record {
      so_far = each_added (quiet_main c.args.groups.now) c.loop-process.process [] c.loop-process.quiet.items c.add_quiet.new.quiet.items _ refl c.in_ok-add_quiet.ensures.main inv.so_far;
      few = omega (arith, more, few);
    }

use Rattle.dk_picture.proofs.Names.{refl, rows_at_level, each_added}
use Rattle.dk_picture.proofs.row_list.add_level.Goals as goal

pub loop-process-preserved : goal.loop-process-preserved
loop-process-preserved c =
    each_added (rows_at_level c.args.header.now c.args.groups.now c.args.level) c.loop-process.process c.args.rows.now.items c.loop-process.rows.items c.add_at_level.new.rows.items _
    refl c.in_ok-add_at_level.ensures c.loop-process.invariant

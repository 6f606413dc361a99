use Rattle.dk_picture.proofs.Names.{refl, ◌∷◌, [], level_rows, each_added}
use Rattle.dk_picture.specs.declared.rows.Row.TheVariants as row
use Rattle.dk_picture.proofs.row_list.row_list.Goals as goal

pub loop-level-preserved : goal.loop-level-preserved
loop-level-preserved c =
    each_added (level_rows c.args.header.now c.args.groups.now) c.loop-level.level (row.Kernel ∷ []) c.loop-level.rows.items c.add_level.new.rows.items _
    refl c.in_ok-add_level.ensures c.loop-level.invariant

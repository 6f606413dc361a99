use Rattle.dk_faults.proofs.Broken.{row_added, rows_added}
use Rattle.dk_faults.proofs.collecting.add_each.Goals as goal

pub loop-i-preserved : goal.loop-i-preserved
loop-i-preserved g c =
    λ tests reports. row_added tests c.args.rows.now c.loop-i.i c.index-rows-i.result c.test.result c.loop-i.found.items c.add.new.found.items _
    c.loop-i-test.true c.index-rows-i.is (reports _ _ _ c.test.ensures) c.in_ok-add.ensures (c.loop-i.invariant tests reports)

pub returns : goal.returns
returns g c =
    λ tests reports. rows_added tests c.args.rows.now c.loop-i.i c.loop-i.found.items _ c.loop-i-test.false (c.loop-i.invariant tests reports)

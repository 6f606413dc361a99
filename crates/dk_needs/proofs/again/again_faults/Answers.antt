use Rattle.std.proofs.Common.{◌≡◌, take, arith}
use Rattle.std.specs.Prelude.{option_to_list}
use Rattle.std.proofs.lemmas.Grind.{common_steps}
use Rattle.dk_needs.specs.Reading.{again_fault, again_faults}
use Rattle.dk_needs.proofs.Lists.{row_more, rows_done}
use Rattle.dk_needs.proofs.again.again_faults.Goals as goal

pub loop-i-preserved : goal.loop-i-preserved
loop-i-preserved c =
    let rows = c.args.rows.now in
    let gives : option_to_list c.again_fault.result ≡ option_to_list (again_fault (take c.loop-i.i rows) c.index-rows-i.result) = grind (arith, common_steps) in
    row_more (λ k n. option_to_list (again_fault (take k rows) n)) rows c.loop-i.i c.index-rows-i.result c.loop-i.found.items c.add.new.found.items
    (again_faults rows) (option_to_list c.again_fault.result) c.loop-i-test.true c.index-rows-i.is gives c.in_ok-add.ensures c.loop-i.invariant

pub returns : goal.returns
returns c =
    let rows = c.args.rows.now in
    rows_done (λ k n. option_to_list (again_fault (take k rows) n)) rows c.loop-i.i c.loop-i.found.items (again_faults rows) c.loop-i-test.false c.loop-i.invariant

use Rattle.show_impact.proofs.Others.{first_tells, second_tells}
use Rattle.show_impact.proofs.touching.touches_only.Goals as goal

pub returns-then-touches_none : goal.returns-then-touches_none
returns-then-touches_none c =
    second_tells c.args.old.now c.args.new.now c.args.rows.now c.args.names.now c.requires c.touches_none.result c.loses_none.result
    c.if-touches_none.true c.touches_none.ensures c.loses_none.ensures

pub returns-else-touches_none : goal.returns-else-touches_none
returns-else-touches_none c =
    first_tells c.args.old.now c.args.new.now c.args.rows.now c.args.names.now c.requires c.touches_none.result c.if-touches_none.false
    c.touches_none.ensures

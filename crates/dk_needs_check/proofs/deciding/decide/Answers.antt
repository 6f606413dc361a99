use Rattle.dk_needs_check.proofs.Listed.{all_told, one_told}
use Rattle.dk_needs_check.proofs.deciding.decide.Goals as goal

pub loop-i-preserved : goal.loop-i-preserved
loop-i-preserved c =
    one_told c.args.config.now c.args.allotments.now c.args.needs.now c.loop-i.i c.index-needs-i.result c.in_ok-answers.answers c.loop-i.rows.items c.add_answers.new.rows.items
    c.loop-i-test.true c.index-needs-i.is c.in_ok-answers.ensures c.in_ok-add_answers.ensures c.loop-i.invariant

pub returns : goal.returns
returns c = all_told c.args.config.now c.args.allotments.now c.args.needs.now c.loop-i.i c.loop-i.rows.items c.loop-i-test.false c.loop-i.invariant

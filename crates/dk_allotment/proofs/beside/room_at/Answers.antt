use Rattle.std.proofs.Common.{◌≡◌, ◌+◌, arith}
use Rattle.dk_allotment.specs.Given.{given}
use Rattle.dk_allotment.proofs.Together.{without}
use Rattle.dk_allotment.proofs.beside.room_at.Goals as goal

pub overflow_sub-others : goal.overflow_sub-others
overflow_sub-others c =
    let split = without c.args.config.now (given c.args.allotments.now) c.args.process c.args.level c.requires.process in
    let all = c.allotted_at.ensures in
    let own = c.part_of.ensures.part in
    omega (arith, split, all, own)

pub returns-then-others-spare : goal.returns-then-others-spare
returns-then-others-spare c =
    let split = without c.args.config.now (given c.args.allotments.now) c.args.process c.args.level c.requires.process in
    let all = c.allotted_at.ensures in
    let own = c.part_of.ensures.part in
    let spare = c.spare_of-spare.ensures.spare in
    let over = c.if-others-spare.true in
    omega (arith, split, all, own, spare, over)

pub returns : goal.returns
returns c =
    let split = without c.args.config.now (given c.args.allotments.now) c.args.process c.args.level c.requires.process in
    let all = c.allotted_at.ensures in
    let own = c.part_of.ensures.part in
    let spare = c.spare_of-spare.ensures.spare in
    let few = c.spare_of-spare.ensures.few in
    let over = c.if-others-spare.false in
    omega (arith, split, all, own, spare, few, over)

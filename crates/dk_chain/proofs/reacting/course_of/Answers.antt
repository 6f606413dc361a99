use Rattle.dk_chain.proofs.Names.{suc, arith, slice_index_or}
use Rattle.std.proofs.Math.ListN.{drop_of_length-le}
use Rattle.dk_chain.proofs.Paced.{goes-on, course-of, drop-next}
use Rattle.dk_chain.proofs.reacting.course_of.Goals as goal

pub step-pace-requires-clause-second : goal.step-pace-requires-clause-second
step-pace-requires-clause-second c =
    let less = c.loop-next-test.true in c.requires.there (suc c.loop-next.next-index) 0 (omega (arith, less))

pub loop-next-preserved : goal.loop-next-preserved
loop-next-preserved c =
    let rest = c.args.rest.now in
    let at = c.loop-next.next-index in
    let less = c.loop-next-test.true in
    goes-on c.args.config.now c.args.first rest at c.loop-next.last (slice_index_or rest at 0) c.loop-next.pace c.step-pace.result c.loop-next.invariant
    (drop-next rest at (omega (arith, less))) (c.requires.there (suc at) 0 (omega (arith, less))) c.step-pace.ensures.level c.step-pace.ensures.within c.step-pace.ensures.few c.step-pace.ensures.starts

pub returns-clause-course : goal.returns-clause-course
returns-clause-course c =
    let over = c.loop-next-test.false in
    let whole = c.loop-next.auto.next-index-end in
    let few = c.requires.few in
    course-of c.args.config.now c.args.first c.args.rest.now c.loop-next.next-index c.loop-next.last c.loop-next.pace c.loop-next.invariant
    (drop_of_length-le c.args.rest.now (omega (arith, over))) (omega (arith, over, few, whole))

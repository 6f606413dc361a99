use Rattle.std.proofs.Common.{◌+◌, refl, arith}
use Rattle.dk_needs_always.proofs.Keeping.{lends-anew, lends-on}
use Rattle.dk_needs_always.proofs.lending.LentWatch.followed.Goals as goal

pub returns-then-passed-self-clause-follows : goal.returns-then-passed-self-clause-follows
returns-then-passed-self-clause-follows c = λ config programs tick is next.
    lends-on config programs tick c.args.self c.args.entry.now is next c.lent_with-lent.result c.max-most.result (c.args.self.passed + 1) c.lent_with-lent.ensures.lent c.max-most.ensures refl c.if-passed-self.true

pub returns-else-passed-self-clause-follows : goal.returns-else-passed-self-clause-follows
returns-else-passed-self-clause-follows c = λ config programs tick is next.
    let high = c.if-passed-self.false in
    lends-anew config programs tick c.args.self c.args.entry.now is next c.lent_with-lent.result c.max-most.result (c.args.self.passed + 1) c.lent_with-lent.ensures.lent c.max-most.ensures refl (omega (arith, high))

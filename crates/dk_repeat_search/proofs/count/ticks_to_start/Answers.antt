use Rattle.dk_repeat_search.proofs.Counting.{starts-now}
use Rattle.dk_repeat_search.proofs.count.ticks_to_start.Goals as goal

pub returns-then-over-eq0-clause-starts : goal.returns-then-over-eq0-clause-starts
returns-then-over-eq0-clause-starts c = starts-now c.args.cycle c.args.now c.requires.within c.if-over-eq0.true

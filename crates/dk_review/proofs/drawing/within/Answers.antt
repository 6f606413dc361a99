use Rattle.dk_review.proofs.Ranges.{ends_before, of_range}
use Rattle.dk_review.proofs.drawing.within.Goals as goal

pub returns-then-range-ticks-clause-fault : goal.returns-then-range-ticks-clause-fault
returns-then-range-ticks-clause-fault c =
    ends_before c.args.range c.args.ticks c.requires.0 _ _ c.requires.1 c.range_within-range.result c.range_within-range.ensures c.if-range-ticks.true

pub returns-in-Ok-clause-drawn : goal.returns-in-Ok-clause-drawn
returns-in-Ok-clause-drawn c =
    of_range c.args.range c.args.ticks c.requires.0 _ _ c.requires.1 c.range_within-range.result c.in-Ok.drawing c.range_within-range.ensures
    (c.in-Ok.ensures c.requires.0 c.requires.1)

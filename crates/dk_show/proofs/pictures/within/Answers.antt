use Rattle.dk_show.proofs.Names.{◌∙◌, inl, inr}
use Rattle.dk_show.proofs.Picturing.{crowded, past_end, pictured}
use Rattle.dk_show.proofs.pictures.within.Goals as goal

pub returns-then-to-ticks-clause-comes : goal.returns-then-to-ticks-clause-comes
returns-then-to-ticks-clause-comes c = λ j shown told.
    inr (inl (past_end c.args.promise c.args.range j c.range_within-from.result.from c.range_within-from.result.to c.args.ticks shown.count c.range_within-from.ensures.from c.range_within-from.ensures.to c.if-to-ticks.true))

pub returns-in-Ok-clause-comes : goal.returns-in-Ok-clause-comes
returns-in-Ok-clause-comes c = λ j shown text has.
    let drawn = c.in-Ok.ensures.drawn j shown in
    inl (pictured c.args.promise c.args.range j c.range_within-from.result.from c.range_within-from.result.to c.args.ticks shown.count c.range_within-from.ensures.from c.range_within-from.ensures.to text c.if-to-ticks.false (has ∙ c.new.ensures ∙ drawn.0) drawn.1)

pub returns-in-Err-TooMany-clause-comes : goal.returns-in-Err-TooMany-clause-comes
returns-in-Err-TooMany-clause-comes c = λ j shown told.
    inr (inr (crowded c.args.promise c.args.range j c.range_within-from.result.from c.range_within-from.result.to c.args.ticks shown.count c.range_within-from.ensures.from c.range_within-from.ensures.to c.in-Err-TooMany.tick c.if-to-ticks.false
    (c.promised_picture.ensures.too_many c.in-Err-TooMany.tick (cc) j shown)))

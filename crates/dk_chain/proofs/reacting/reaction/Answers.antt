use Rattle.std.proofs.Common.{◌≡◌, ◌+◌, ◌-◌, ap, arith}
use Rattle.dk_chain.proofs.Paced.{reaction-of}
use Rattle.dk_chain.proofs.reacting.reaction.Goals as goal

pub returns-clause-reaction : goal.returns-clause-reaction
returns-clause-reaction c done are =
    let config = c.args.config.now in
    let whole = c.course_of-whole.result in
    let pace = whole.pace in
    let course = c.course_of-whole.ensures.course in
    let known = are whole.last c.course_of-whole.ensures.there in
    let most = known.1 c.done_by.result c.done_by.ensures.reached in
    let least = c.done_by.ensures.least (done whole.last) known.0 in
    let is : done whole.last ≡ c.done_by.result = omega (arith, most, least) in
    reaction-of config c.args.first c.args.rest.now whole done c.done_by.result (pace.before + pace.lag + (c.level_row-period.result.period - 1) + c.done_by.result)
    course (c.requires.checked.positive pace.level course.level) are is
    (ap (λ k. pace.before + pace.lag + (k - 1) + c.done_by.result) c.level_row-period.ensures.period)

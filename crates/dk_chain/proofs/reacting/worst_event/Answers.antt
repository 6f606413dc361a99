use Rattle.dk_chain.proofs.Names.{◌+◌, ◌-◌, ◌∙◌, ap, round_up}
use Rattle.dk_chain.proofs.Paced.{worst-of}
use Rattle.dk_chain.proofs.reacting.worst_event.Goals as goal

pub returns-clause-worst : goal.returns-clause-worst
returns-clause-worst c done reaction are is =
    let config = c.args.config.now in
    let pace = c.course_of.result.pace in
    let course = c.course_of.ensures.course in
    worst-of config c.args.first c.args.rest.now c.course_of.result done reaction (c.round_up.result + 1 - pace.before) course
    (c.requires.checked.positive pace.level course.level) are is
    (ap (λ k. k + 1 - pace.before) (c.round_up.ensures.up ∙ ap (round_up pace.before) c.level_row-period.ensures.period))

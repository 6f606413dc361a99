use Rattle.dk_chain.proofs.Names.{◌≡◌, ◌+◌, ◌-◌, ◌≤◌, ◌∙◌, ap, arith, le_of_dvd, period, main_level, window_length}
use Rattle.dk_chain.proofs.Oldest.{met-age}
use Rattle.dk_chain.proofs.Paced.{age-of}
use Rattle.dk_chain.proofs.reacting.data_age.Goals as goal

pub returns-clause-age : goal.returns-clause-age
returns-clause-age c done reaction are is =
    let config = c.args.config.now in
    let whole = c.course_of-whole.result in
    let pace = whole.pace in
    let course = c.course_of-whole.ensures.course in
    let checked = c.requires.checked in
    let known = are whole.last c.course_of-whole.ensures.there in
    let most = known.1 c.done_by.result c.done_by.ensures.reached in
    let least = c.done_by.ensures.least (done whole.last) known.0 in
    let by : done whole.last ≡ c.done_by.result = omega (arith, most, least) in
    let own : c.level_row-own.result.period ≡ window_length config whole.last = c.level_row-own.ensures.period ∙ ap (period config) c.level_of.ensures.level in
    let slowest = c.level_row-slowest.ensures.period in
    let shorter : window_length config whole.last ≤ period config pace.level =
    le_of_dvd (checked.positive pace.level course.level) (checked.divides (main_level config whole.last) pace.level course.within course.level) in
    age-of config c.args.first c.args.rest.now whole done c.done_by.result reaction
    (pace.before + pace.lag + (c.level_row-slowest.result.period - c.level_row-own.result.period) + c.done_by.result) checked course are by is shorter
    (omega (arith, own, slowest, shorter))

pub returns-clause-met : goal.returns-clause-met
returns-clause-met c done reaction are is =
    let config = c.args.config.now in
    let whole = c.course_of-whole.result in
    let course = c.course_of-whole.ensures.course in
    let checked = c.requires.checked in
    let shorter : window_length config whole.last ≤ period config whole.pace.level =
    le_of_dvd (checked.positive whole.pace.level course.level) (checked.divides (main_level config whole.last) whole.pace.level course.within course.level) in
    met-age config c.args.first c.args.rest.now whole done reaction _ checked c.requires.there course are is shorter
    (returns-clause-age c done reaction are is)

use Rattle.dk_chain.proofs.Names.{◌+◌, ◌<◌, ◌≤◌, ◌∙◌, ap, arith, main_level, period, start_by, round_up}
use Rattle.dk_chain.proofs.Paced.{at-the-pace, slower-pace}
use Rattle.dk_chain.proofs.reacting.step.Goals as goal

pub returns-then-level-pace-clause-starts : goal.returns-then-level-pace-clause-starts
returns-then-level-pace-clause-starts c done are t =
    let config = c.args.config.now in
    let pace = c.args.pace in
    let fast = c.if-level-pace.true in
    let level = c.level_of-level.ensures.level in
    let within : main_level config c.args.q ≤ pace.level = omega (arith, fast, level) in
    let window = c.level_row-period.ensures.period ∙ ap (period config) level in
    at-the-pace config done c.args.p c.args.q t c.gap.result c.round_up.result pace c.requires.checked c.requires.second c.requires.level within
    (c.gap.ensures.gap done are (start_by config pace t)) (c.round_up.ensures.up ∙ ap (round_up (pace.lag + c.gap.result)) window)

pub returns-else-level-pace-clause-starts : goal.returns-else-level-pace-clause-starts
returns-else-level-pace-clause-starts c done are t =
    let config = c.args.config.now in
    let pace = c.args.pace in
    let slow = c.if-level-pace.false in
    let level = c.level_of-level.ensures.level in
    let above : pace.level < main_level config c.args.q = omega (arith, slow, level) in
    let window = c.level_row-period-else-level-pace.ensures.period in
    slower-pace config done c.args.p c.args.q t c.gap.result c.round_up-else-level-pace.result c.level_of-level.result pace c.requires.checked c.requires.second above level
    (c.gap.ensures.gap done are (start_by config pace t)) (c.round_up-else-level-pace.ensures.up ∙ ap (round_up (pace.lag + c.gap.result)) window)

use Rattle.std.proofs.Common.{ℕ, ◌≡◌, ◌+◌, ◌≤◌, ◌∙◌, ap, arith}
use Rattle.dk_config.specs.Ahead.{level_ahead}
use Rattle.dk_config.specs.Windows.{main_level, period}
use Rattle.dk_allotment.specs.Soon.{IsEnoughSlack}
use Rattle.dk_allotment.proofs.Enough.{SearchingSlack, none-fewer, room-enough, search-slack-step, window-enough}
use Rattle.dk_allotment.proofs.soon.own_slack_by.Goals as goal

pub returns-then-needs-least-clause-reached : goal.returns-then-needs-least-clause-reached
returns-then-needs-least-clause-reached c =
    let config = c.args.config.now in
    let p = c.args.process in
    let least = c.loop-least.least in
    let own = c.level_of-own.ensures.own in
    let window = c.level_row-window.ensures.period ∙ ap (period config) own in
    let needs = c.level_ahead.ensures.ahead ∙ ap (λ m. level_ahead config m least) own in
    let few = c.if-needs-least.true in
    room-enough config p c.args.ticks c.level_row-window.result.period least c.requires.process c.loop-least.invariant window (omega (arith, needs, few))

pub returns-then-needs-least-clause-least : goal.returns-then-needs-least-clause-least
returns-then-needs-least-clause-least c =
    let config = c.args.config.now in
    let window = c.level_row-window.ensures.period ∙ ap (period config) c.level_of-own.ensures.own in
    λ f enough. none-fewer config c.args.process c.args.ticks c.level_row-window.result.period c.loop-least.least f c.requires.process c.loop-least.invariant window enough

pub loop-least-preserved : goal.loop-least-preserved
loop-least-preserved c =
    let config = c.args.config.now in
    let p = c.args.process in
    let least = c.loop-least.least in
    let needs = c.level_ahead.ensures.ahead ∙ ap (λ m. level_ahead config m least) c.level_of-own.ensures.own in
    let more = c.if-needs-least.false in
    search-slack-step config (main_level config p) c.args.ticks c.level_row-window.result.period least (c.level_ahead.result + c.args.ticks) c.min-least.result
    c.requires.checked (c.requires.checked.levels p c.requires.process) c.loop-least.invariant (omega (arith, needs)) (omega (arith, more)) c.min-least.ensures

pub returns-clause-reached : goal.returns-clause-reached
returns-clause-reached c =
    let config = c.args.config.now in
    let window = c.level_row-window.ensures.period ∙ ap (period config) c.level_of-own.ensures.own in
    window-enough config c.args.process c.args.ticks c.level_row-window.result.period c.level_row-window.ensures.positive window

pub returns-clause-least : goal.returns-clause-least
returns-clause-least c =
    let config = c.args.config.now in
    let window = c.level_row-window.ensures.period ∙ ap (period config) c.level_of-own.ensures.own in
    let over = c.loop-least-test.false in
    λ f enough.
    let fewer = none-fewer config c.args.process c.args.ticks c.level_row-window.result.period c.loop-least.least f c.requires.process c.loop-least.invariant window enough in
    omega (arith, fewer, over)

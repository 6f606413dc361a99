use Rattle.std.proofs.Common.{ℕ, ◌≡◌, ◌+◌, ◌≤◌, ◌∙◌, ap, arith}
use Rattle.dk_config.specs.Ahead.{level_ahead}
use Rattle.dk_config.specs.Windows.{main_level, period}
use Rattle.dk_slack_promise.specs.Soon.{allotted_begun}
use Rattle.dk_allotment.specs.Given.{given}
use Rattle.dk_allotment.proofs.Together.{SearchingGiven, given-enough, given-fewer, given-window, search-given-step}
use Rattle.dk_allotment.proofs.beside.given_slack_by.Goals as goal

pub returns-then-needs-least-clause-reached : goal.returns-then-needs-least-clause-reached
returns-then-needs-least-clause-reached c =
    let config = c.args.config.now in
    let s : ℕ → ℕ = given c.args.allotments.now in
    let p = c.args.process in
    let least = c.loop-least.least in
    let own = c.level_of-own.ensures.own in
    let window = c.level_row-window.ensures.period ∙ ap (period config) own in
    let needs = c.level_ahead.ensures.ahead ∙ ap (λ m. level_ahead config m least) own in
    let begun = c.allotted_begun.ensures.sum ∙ ap (λ m. allotted_begun config s m least) own in
    let few = c.if-needs-least.true in
    given-enough config s (main_level config p) c.level_row-window.result.period least c.loop-least.invariant window (omega (arith, needs, begun, few))

pub returns-then-needs-least-clause-least : goal.returns-then-needs-least-clause-least
returns-then-needs-least-clause-least c =
    let config = c.args.config.now in
    let window = c.level_row-window.ensures.period ∙ ap (period config) c.level_of-own.ensures.own in
    λ f enough. given-fewer config (given c.args.allotments.now) (main_level config c.args.process) c.level_row-window.result.period c.loop-least.least f c.loop-least.invariant window enough

pub loop-least-preserved : goal.loop-least-preserved
loop-least-preserved c =
    let config = c.args.config.now in
    let s : ℕ → ℕ = given c.args.allotments.now in
    let p = c.args.process in
    let least = c.loop-least.least in
    let own = c.level_of-own.ensures.own in
    let needs = c.level_ahead.ensures.ahead ∙ ap (λ m. level_ahead config m least) own in
    let begun = c.allotted_begun.ensures.sum ∙ ap (λ m. allotted_begun config s m least) own in
    let more = c.if-needs-least.false in
    search-given-step config s (main_level config p) c.level_row-window.result.period least (c.level_ahead.result + c.allotted_begun.result) c.min-least.result
    c.requires.checked (c.requires.checked.levels p c.requires.process) c.loop-least.invariant (omega (arith, needs, begun)) (omega (arith, more)) c.min-least.ensures

pub returns-clause-reached : goal.returns-clause-reached
returns-clause-reached c =
    let config = c.args.config.now in
    let window = c.level_row-window.ensures.period ∙ ap (period config) c.level_of-own.ensures.own in
    given-window config (given c.args.allotments.now) (main_level config c.args.process) c.level_row-window.result.period c.level_row-window.ensures.positive window

pub returns-clause-least : goal.returns-clause-least
returns-clause-least c =
    let config = c.args.config.now in
    let window = c.level_row-window.ensures.period ∙ ap (period config) c.level_of-own.ensures.own in
    let over = c.loop-least-test.false in
    λ f enough.
    let fewer = given-fewer config (given c.args.allotments.now) (main_level config c.args.process) c.level_row-window.result.period c.loop-least.least f c.loop-least.invariant window enough in
    omega (arith, fewer, over)

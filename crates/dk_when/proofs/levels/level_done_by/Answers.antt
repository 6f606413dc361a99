use Rattle.std.proofs.Common.{rules, ◌≡◌, ◌∙◌, ap, sym, true, false, arith}
use Rattle.std.specs.List.{list_any}
use Rattle.dk_when.proofs.Rising.{search-all-step, all-found, whole-all-least, lends_faster, no-faster-slack, faster-slack}
use Rattle.dk_when.proofs.levels.level_done_by.Goals as goal

pub returns-then-has_faster_slack-clause-least : goal.returns-then-has_faster_slack-clause-least
returns-then-has_faster_slack-clause-least c =
    let config = c.args.config.now in
    let rows : c.as_slice.result.now ≡ config.processes = search rules in
    let asks : list_any (lends_faster c.args.level) config.processes ≡ true =
    ap (list_any (lends_faster c.args.level)) (sym rows) ∙ sym c.has_faster_slack.ensures ∙ c.if-has_faster_slack.true in
    λ f enough. whole-all-least config c.args.level c.level_row-window.result.period f c.level_row-window.ensures.period (faster-slack config c.args.level asks) enough

pub returns-then-needs-least-clause-reached : goal.returns-then-needs-least-clause-reached
returns-then-needs-least-clause-reached c =
    let config = c.args.config.now in
    let rows : c.as_slice.result.now ≡ config.processes = search rules in
    let none : list_any (lends_faster c.args.level) config.processes ≡ false =
    ap (list_any (lends_faster c.args.level)) (sym rows) ∙ sym c.has_faster_slack.ensures ∙ c.if-has_faster_slack.false in
    let needs = c.level_ahead-needs.ensures.ahead in
    let few = c.if-needs-least.true in
    all-found config c.args.level c.level_row-window.result.period c.loop-least.least c.loop-least.invariant c.level_row-window.ensures.period
    (no-faster-slack config c.args.level none) (omega (arith, needs, few))

pub loop-least-preserved : goal.loop-least-preserved
loop-least-preserved c =
    let more = c.if-needs-least.false in
    search-all-step c.args.config.now c.args.level c.level_row-window.result.period c.loop-least.least c.requires.checked c.requires.exists c.loop-least.invariant
    c.level_ahead-needs.result c.min-least.result c.level_ahead-needs.ensures.ahead (omega (arith, more)) c.min-least.ensures

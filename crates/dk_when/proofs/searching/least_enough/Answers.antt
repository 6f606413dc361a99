use Rattle.std.proofs.Common.{rules, ◌≡◌, ◌+◌, ◌∙◌, ap, sym, subst, true, false, arith}
use Rattle.std.specs.List.{list_any}
use Rattle.dk_config.specs.Windows.{main_level, period}
use Rattle.dk_when.proofs.Rising.{search-step, found-enough, whole-least, lends_faster, no-faster-slack, faster-slack}
use Rattle.dk_when.proofs.searching.least_enough.Goals as goal

pub returns-then-has_faster_slack-clause-least : goal.returns-then-has_faster_slack-clause-least
returns-then-has_faster_slack-clause-least c =
    let config = c.args.config.now in
    let level = c.place_of-own.ensures.level in
    let is = c.level_row-window.ensures.period ∙ ap (period config) level in
    let rows : c.as_slice.result.now ≡ config.processes = search rules in
    let asks : list_any (lends_faster c.place_of-own.result.level) config.processes ≡ true =
    ap (list_any (lends_faster c.place_of-own.result.level)) (sym rows) ∙ sym c.has_faster_slack.ensures ∙ c.if-has_faster_slack.true in
    let asks' : list_any (lends_faster (main_level config c.args.process)) config.processes ≡ true =
    subst (λ m. list_any (lends_faster m) config.processes ≡ true) level asks in
    λ f enough. whole-least config c.args.process c.args.ticks c.level_row-window.result.period f is (faster-slack config (main_level config c.args.process) asks') enough

pub returns-then-needs-least-clause-reached : goal.returns-then-needs-least-clause-reached
returns-then-needs-least-clause-reached c =
    let config = c.args.config.now in
    let level = c.place_of-own.ensures.level in
    let is = c.level_row-window.ensures.period ∙ ap (period config) level in
    let rows : c.as_slice.result.now ≡ config.processes = search rules in
    let none : list_any (lends_faster c.place_of-own.result.level) config.processes ≡ false =
    ap (list_any (lends_faster c.place_of-own.result.level)) (sym rows) ∙ sym c.has_faster_slack.ensures ∙ c.if-has_faster_slack.false in
    let none' : list_any (lends_faster (main_level config c.args.process)) config.processes ≡ false =
    subst (λ m. list_any (lends_faster m) config.processes ≡ false) level none in
    let needs = c.ahead.ensures.ahead in
    let few = c.if-needs-least.true in
    found-enough config c.args.process c.args.ticks c.level_row-window.result.period c.loop-least.least c.loop-least.invariant is
    (no-faster-slack config (main_level config c.args.process) none') (omega (arith, needs, few))

pub loop-least-preserved : goal.loop-least-preserved
loop-least-preserved c =
    let config = c.args.config.now in
    search-step config c.args.process c.args.ticks c.level_row-window.result.period c.loop-least.least c.requires.checked c.requires.process c.loop-least.invariant
    (c.ahead.result + c.args.ticks) c.min-least.result (ap (λ n. n + c.args.ticks) c.ahead.ensures.ahead) c.min-least.ensures

use Rattle.std.proofs.Common.{◌∙◌, ◌+◌, ap, sym}
use Rattle.dk_trace_events.specs.SlackPoints.{is_timeline, slack_in}
use Rattle.dk_trace_events.proofs.SlackCounts.{slack_more, ticks_if, used}
use Rattle.dk_trace_events.proofs.slack.SlackUsed.with_group.Goals as goal

pub returns : goal.returns
returns c = λ before same.
    let s = slack_in before in
    let t = c.timeline_ticks.result in
    let r = c.reclaimed_ticks.result in
    let g = c.args.group in
    ap (λ x. used (x.timeline + t) (x.reclaimed + r)) same
    ∙ ap (λ n. used (s.timeline + n) (s.reclaimed + r)) c.timeline_ticks.ensures.ticks
    ∙ ap (λ n. used (s.timeline + ticks_if is_timeline g) (s.reclaimed + n)) c.reclaimed_ticks.ensures.ticks
    ∙ sym (slack_more before g c.requires.some)

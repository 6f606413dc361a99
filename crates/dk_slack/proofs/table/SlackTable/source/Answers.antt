use Rattle.dk_slack.proofs.Names.{◌∙◌, ap, Slack, source, unclaimed_by}
use Rattle.dk_slack.proofs.Lasting.{lasts-now}
use Rattle.dk_slack.proofs.table.SlackTable.source.Goals as goal

pub returns : goal.returns
returns c =
    let t = c.self.inside in
    c.source.ensures
    ∙ ap (λ counters. source (unclaimed_by t.nobodys counters c.deref-2.result.now) c.deref-3.result.now) c.deref.ensures.0
    ∙ ap (λ marks. source (unclaimed_by t.nobodys t.counters.items marks) c.deref-3.result.now) c.deref-2.ensures.0
    ∙ ap (source (unclaimed_by t.nobodys t.counters.items t.marks.items)) c.deref-3.ensures.0
    ∙ ap (λ (v : Slack). source v.unclaimed v.spares) c.self.view_is

pub returns-then-self-gt0 : goal.returns-then-self-gt0
returns-then-self-gt0 c =
    let t = c.self.inside in
    lasts-now t.lasting (unclaimed_by t.nobodys t.counters.items t.marks.items) t.spares.items c.self.invariant.2 c.if-self-gt0.true
    ∙ ap (λ (v : Slack). source v.unclaimed v.spares) c.self.view_is

use Rattle.dk_slack.proofs.Names.{◌∙◌, ap, sym, Slack, first_node}
use Rattle.dk_slack.proofs.Fronts.{nobody}
use Rattle.dk_slack.proofs.table.SlackTable.quiet.Goals as goal

pub returns-clause-quiet : goal.returns-clause-quiet
returns-clause-quiet c = λ k less.
    let f = c.self.inside in
    ap (λ (t : Slack). first_node k t.wishes) (sym c.self.view_is) ∙ nobody f.rows.items f.rail.lists k (c.quiet.ensures.quiet k less)

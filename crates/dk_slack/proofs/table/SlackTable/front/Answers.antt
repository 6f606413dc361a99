use Rattle.dk_slack.proofs.Names.{◌∙◌, ap, Slack, first_node}
use Rattle.dk_slack.proofs.Fronts.{front}
use Rattle.dk_slack.proofs.table.SlackTable.front.Goals as goal

pub returns-clause-first : goal.returns-clause-first
returns-clause-first g c =
    c.front.ensures.first
    ∙ front c.self.inside.rows.items c.self.inside.rail.lists c.args.level
    ∙ ap (λ (t : Slack). first_node c.args.level t.wishes) c.self.view_is

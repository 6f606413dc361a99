use Rattle.dk_slack.proofs.Names.{◌∙◌, ap, want, Slack}
use Rattle.dk_slack.proofs.Wished.{want-dropped}
use Rattle.dk_slack.proofs.table.SlackTable.ask.Goals as goal

pub put-requires-clause-free : goal.put-requires-clause-free
put-requires-clause-free g c = ap (λ (t : Slack). want c.args.node t.wishes) c.drop_request.ensures.table ∙ want-dropped c.args.node c.args.self.now.wishes

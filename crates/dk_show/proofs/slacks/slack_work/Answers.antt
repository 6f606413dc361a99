use Rattle.dk_show.proofs.Names.{ℕ, ◌≡◌, ◌∙◌, List, ap, subst, IfSome, Ok, certified_at, ComesTo}
use Rattle.dk_show_request.specs.Slack.{SlackAsk}
use Rattle.dk_show.specs.Slacks.{IsOfSlack}
use Rattle.dk_show.proofs.Coming.{in_any, of_something}
use Rattle.dk_show.proofs.slacks.slack_work.Goals as goal

pub returns-clause-comes : goal.returns-clause-comes
returns-clause-comes g c =
    let files = (g.D.Depot.seen c.args.depot.now).files in
    let r = c.args.request.now in
    let x = c.in_ok-config.config in
    let name = c.as_str.ensures ∙ ap (λ (a : SlackAsk). a.file) c.request.view_is in
    let found = subst (λ (name : List ℕ). IfSome files (λ at. certified_at (at name) ≡ Ok x)) name c.in_ok-config.ensures.loads in
    of_something files (λ at. certified_at (at r.file)) (λ at k. IsOfSlack r k) x c.of_slack.result found (in_any files c.of_slack.ensures.comes)

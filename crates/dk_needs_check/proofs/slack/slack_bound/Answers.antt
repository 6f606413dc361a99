use Rattle.std.proofs.Common.{refl}
use Rattle.dk_needs_check.specs.declared.row.Measure.{Measure}
use Rattle.dk_needs_check.specs.Meaning.{HasSlack}
use Rattle.dk_needs_check.proofs.Told.{at_least, most_is}
use Rattle.dk_needs_check.proofs.slack.slack_bound.Goals as goal

pub returns : goal.returns
returns c =
    let config = c.args.config.now in
    let xs = c.args.allotments.now in
    at_least (HasSlack config xs c.args.process) Measure.Slack c.most_beside.result c.args.each c.bound.result refl
    (most_is config xs c.args.process c.most_beside.result c.most_beside.ensures) c.bound.ensures

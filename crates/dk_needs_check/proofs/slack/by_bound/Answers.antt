use Rattle.std.proofs.Common.{refl}
use Rattle.dk_needs_check.specs.declared.row.Measure.{Measure}
use Rattle.dk_needs_check.specs.Meaning.{HasSlackBy}
use Rattle.dk_needs_check.proofs.Told.{at_most_if_any}
use Rattle.dk_needs_check.proofs.slack.by_bound.Goals as goal

pub returns : goal.returns
returns c =
    at_most_if_any (HasSlackBy c.args.config.now c.args.allotments.now c.args.process) Measure.SlackBy c.slack_by.result c.args.within c.bound.result refl
    c.slack_by.ensures c.bound.ensures

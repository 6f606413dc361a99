use Rattle.dk_impact.proofs.Names.{◌+◌}
use Rattle.dk_impact.proofs.Windows.{windows-across}
use Rattle.dk_impact.proofs.windows_across_law.Goals as goal

pub returns : goal.returns
returns c one other programs others p p' t n checked accepted checked' accepted' keeps keeps' agree sees begins begins_later =
    windows-across one other programs others p p' t n t n
    (c.impact_law.ensures one other programs others p p' t checked accepted checked' accepted' keeps keeps' agree sees begins)
    (c.impact_law.ensures one other programs others p p' (t + n) checked accepted checked' accepted' keeps keeps' agree sees begins_later)

use Rattle.dk_impact.proofs.Names.{suc}
use Rattle.dk_impact.proofs.Windows.{windows-any-period}
use Rattle.dk_impact.proofs.windows_any_period_law.Goals as goal

pub returns : goal.returns
returns c one other programs others p p' k checked accepted checked' accepted' keeps keeps' agree sees =
    windows-any-period one other programs others p p' k
    (c.period_impact_law.ensures one other programs others p p' k checked accepted checked' accepted' keeps keeps' agree sees)
    (c.period_impact_law.ensures one other programs others p p' (suc k) checked accepted checked' accepted' keeps keeps' agree sees)

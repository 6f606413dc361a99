use Rattle.dk_impact.proofs.first_windows_across_law.Goals as goal

pub returns : goal.returns
returns c one other programs others p p' s k holds checked accepted checked' accepted' keeps keeps' agree sees =
    c.first_windows_any_period_law.ensures one other programs others p p' s k holds checked accepted checked' accepted' keeps keeps' agree sees.but_period

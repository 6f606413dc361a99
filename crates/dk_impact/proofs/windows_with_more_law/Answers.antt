use Rattle.dk_impact.proofs.Names.{suc}
use Rattle.dk_impact.proofs.Windows.{windows-any-period}
use Rattle.dk_impact.proofs.Greater.{earlier, no-later}
use Rattle.dk_impact.proofs.windows_with_more_law.Goals as goal

pub returns : goal.returns
returns c one other programs others p p' k checked accepted checked' accepted' keeps keeps' agree given enough =
    windows-any-period one other programs others p p' k
    (c.greater_budget_law.ensures one other programs others p p' k checked accepted checked' accepted' keeps keeps' agree given (λ j less. enough j (earlier j k less)))
    (c.greater_budget_law.ensures one other programs others p p' (suc k) checked accepted checked' accepted' keeps keeps' agree given (λ j less. enough j (no-later j k less)))

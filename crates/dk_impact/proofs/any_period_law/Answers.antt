use Rattle.dk_impact.proofs.Names.{inl}
use Rattle.dk_impact.proofs.Across.{any-period}
use Rattle.dk_impact.proofs.Greater.{same-budgets}
use Rattle.dk_impact.proofs.any_period_law.Goals as goal

pub returns : goal.returns
returns c one other program p p' k checked accepted checked' accepted' keeps keeps' sees =
    any-period one other p p' program checked accepted checked' accepted' keeps keeps' sees.but_time (same-budgets one other p p' sees.budget) k
    (λ i less j within. inl sees.budget)

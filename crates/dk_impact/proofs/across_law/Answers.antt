use Rattle.dk_impact.proofs.Names.{inl, main_level}
use Rattle.dk_impact.proofs.Across.{across}
use Rattle.dk_impact.proofs.across_law.Goals as goal

pub returns : goal.returns
returns c one other program p p' n checked checked' keeps keeps' sees =
    across one other p p' program sees.but_period.but_time (checked.positive (main_level one p) (checked.levels p keeps.known))
    (checked'.positive (main_level other p') (checked'.levels p' keeps'.known)) keeps keeps' sees.period (λ k. inl sees.but_period.budget) n

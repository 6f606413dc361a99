use Rattle.dk_impact.proofs.Greater.{with-more}
use Rattle.dk_impact.proofs.alone_with_more_law.Goals as goal

pub returns : goal.returns
returns c one other program p p' k checked accepted checked' accepted' keeps keeps' given enough =
    with-more one other p p' program checked accepted checked' accepted' keeps keeps' given.sees given.reads given.budget k enough

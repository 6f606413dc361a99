use Rattle.dk_overrun_spans.proofs.Growing.{all-told}
use Rattle.dk_overrun_spans.proofs.laws.all_told_law.Goals as goal

pub returns : goal.returns
returns c = all-told c.row_law.ensures.start c.row_law.ensures.step

use Rattle.dk_overrun_spans.proofs.Rows.{all-counted}
use Rattle.dk_overrun_spans.proofs.laws.all_counted_law.Goals as goal

pub returns : goal.returns
returns c = all-counted c.all_told_law.ensures

use Rattle.dk_overrun_spans.proofs.Paid.{last-paid}
use Rattle.dk_overrun_spans.proofs.laws.last_paid_law.Goals as goal

pub returns : goal.returns
returns c = last-paid c.row_law.ensures.step

use Rattle.dk_cycle.proofs.Seen.{waits-are-told}
use Rattle.dk_cycle.proofs.waiting.waits_law.Goals as goal

pub returns : goal.returns
returns c = waits-are-told c.windows_law.ensures c.first_windows_law.ensures

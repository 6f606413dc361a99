use Rattle.dk_repeat.proofs.Reading.{entries-show}
use Rattle.dk_repeat.proofs.reads_law.Goals as goal

pub returns : goal.returns
returns c = entries-show c.audited_law.ensures c.cause_law.ensures c.chosen_law.ensures c.threads_law.ensures c.standing_law.ensures

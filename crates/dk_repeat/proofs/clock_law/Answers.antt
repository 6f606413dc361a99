use Rattle.dk_repeat.proofs.Repeating.{no-program-reads}
use Rattle.dk_repeat.proofs.clock_law.Goals as goal

pub returns : goal.returns
returns c config programs n checked accepted clock =
    no-program-reads config programs n checked accepted c.audited_law.ensures c.cause_law.ensures c.chosen_law.ensures c.threads_law.ensures c.standing_law.ensures clock

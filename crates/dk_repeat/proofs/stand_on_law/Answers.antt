use Rattle.dk_repeat.proofs.Repeating.{stands-on}
use Rattle.dk_repeat.proofs.stand_on_law.Goals as goal

pub returns : goal.returns
returns c config programs s k n checked accepted again begins =
    stands-on config programs s k checked accepted c.audited_law.ensures c.length_law.ensures c.cause_law.ensures c.chosen_law.ensures c.threads_law.ensures
    c.standing_law.ensures c.begin_law.ensures c.known_holders_law.ensures again n begins

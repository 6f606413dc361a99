use Rattle.dk_repeat.proofs.Repeating.{memories-repeat}
use Rattle.dk_repeat.proofs.memory_law.Goals as goal

pub returns : goal.returns
returns c config programs s k n p checked accepted again here =
    memories-repeat config programs s k checked accepted c.audited_law.ensures c.length_law.ensures c.cause_law.ensures c.chosen_law.ensures c.threads_law.ensures
    c.standing_law.ensures c.begin_law.ensures c.known_holders_law.ensures again n p here

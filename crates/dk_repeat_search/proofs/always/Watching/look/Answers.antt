use Rattle.dk_repeat_search.proofs.Names.{arith}
use Rattle.dk_repeat_search.proofs.always.Watching.look.Goals as goal

pub returns-clause-looked : goal.returns-clause-looked
returns-clause-looked c = c.in_ok-look.ensures.looked 1 (omega arith) c.in_ok-look.ensures.later

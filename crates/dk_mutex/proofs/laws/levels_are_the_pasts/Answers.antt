use Rattle.dk_mutex.proofs.Levels.{level_is, holder_is}
use Rattle.dk_mutex.proofs.laws.levels_are_the_pasts.Goals as goal

pub returns-clause-level : goal.returns-clause-level
returns-clause-level c = level_is

pub returns-clause-holder : goal.returns-clause-holder
returns-clause-holder c = holder_is

use Rattle.dk_alone.proofs.Told.{told}
use Rattle.dk_alone.proofs.first_windows_law.Goals as goal

pub returns : goal.returns
returns c config programs others p s k holds checked accepted keeps agree again first tick begins =
    told config programs others p s k checked accepted keeps agree c.windows_law.ensures c.again_law.ensures c.own_repeat_law.ensures again holds first tick begins

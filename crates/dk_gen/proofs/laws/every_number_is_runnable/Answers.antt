use Rattle.dk_gen.proofs.Runnable.{runnable}
use Rattle.dk_gen.proofs.laws.every_number_is_runnable.Goals as goal

pub returns : goal.returns
returns c = runnable

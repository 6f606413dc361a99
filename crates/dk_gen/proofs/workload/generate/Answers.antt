use Rattle.std.proofs.Common.{sym, subst}
use Rattle.dk_gen.specs.Runnable.{IsRunnable}
use Rattle.dk_gen.proofs.Runnable.{runnable}
use Rattle.dk_gen.proofs.workload.generate.Goals as goal

pub returns-clause-runnable : goal.returns-clause-runnable
returns-clause-runnable c = subst IsRunnable (sym c.in_ok-workload.ensures) (runnable c.args.number)

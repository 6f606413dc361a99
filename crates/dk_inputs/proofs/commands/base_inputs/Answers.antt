use Rattle.dk_inputs.proofs.Names.{refl, job_of, base}
use Rattle.dk_inputs.specs.declared.inputs.Inputs.TheVariants as inputs
use Rattle.dk_inputs.proofs.FollowLemmas.{made}
use Rattle.dk_inputs.proofs.commands.base_inputs.Goals as goal

pub returns-clause-found : goal.returns-clause-found
returns-clause-found g c =
    made job_of (g.D.Depot.seen c.args.depot.now) (inputs.Base c.args.lo c.args.hi c.args.asks) (base c.args.lo c.args.hi c.args.asks) refl

use Rattle.dk_inputs.proofs.Names.{Ok, generated, job_of, run}
use Rattle.dk_request.specs.declared.output.Output.TheVariants as asked
use Rattle.dk_inputs.proofs.FollowLemmas.{tested}
use Rattle.dk_inputs.proofs.commands.gen_inputs.Goals as goal

pub returns-clause-found : goal.returns-clause-found
returns-clause-found g c =
    tested job_of (g.D.Depot.seen c.args.depot.now) c.generated.result (Ok (run (generated c.args.number) c.args.ticks asked.Report)) c.generated.ensures.found

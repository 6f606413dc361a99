use Rattle.dk_inputs.proofs.Names.{◌≡◌, ap, rules, sym, Err, Ok, Configuration, Loaded, job_of, run, done, programs_at}
use Rattle.dk_inputs.specs.declared.inputs.Inputs.TheVariants as inputs
use Rattle.dk_inputs.proofs.FollowLemmas.{made, next, refused}
use Rattle.dk_inputs.proofs.commands.launched.Goals as goal

-- A program was refused.
pub returns-in_err-loaded-clause-found : goal.returns-in_err-loaded-clause-found
returns-in_err-loaded-clause-found g c =
    let is : c.from_residual.result ≡ Err c.in_err-loaded.field-0.0 = search rules in
    refused job_of (λ (l : Loaded). l.programs) (λ at. programs_at at c.args.config.processes) (λ at programs. done (run (record { config = c.args.config; programs = programs }) c.args.ticks c.args.output))
    (g.D.Depot.seen c.args.depot.now) (g.D.Depot.seen c.loaded.new.depot) (g.D.Depot.seen c.loaded.new.depot) c.in_err-loaded.field-0.0 c.from_residual.result is c.in_err-loaded.ensures.found

-- They were read, and the run is made of them.
pub returns-clause-found : goal.returns-clause-found
returns-clause-found g c =
    let last = g.D.Depot.seen c.loaded.new.depot in
    let l = c.in_ok-loaded.loaded in
    next job_of (λ (l : Loaded). l.programs) (λ at. programs_at at c.args.config.processes) (λ at programs. done (run (record { config = c.args.config; programs = programs }) c.args.ticks c.args.output))
    (g.D.Depot.seen c.args.depot.now) last last l (Ok (inputs.Run c.args.header l c.args.ticks c.args.output)) c.in_ok-loaded.ensures.found
    (made job_of last (inputs.Run c.args.header l c.args.ticks c.args.output) (run (record { config = c.args.config; programs = l.programs }) c.args.ticks c.args.output)
    (ap (λ (k : Configuration). run (record { config = k; programs = l.programs }) c.args.ticks c.args.output) (sym c.in_ok-loaded.ensures.config)))

use Rattle.dk_inputs.proofs.Names.{◌≡◌, refl, rules, Err, Ok, Configuration, migrated, job_of, config_at, document, done}
use Rattle.dk_inputs.specs.declared.inputs.Inputs.TheVariants as inputs
use Rattle.dk_inputs.proofs.FollowLemmas.{made, next, refused}
use Rattle.dk_inputs.proofs.commands.migrate_inputs.Goals as goal

-- The configuration was refused.
pub returns-in_err-config-clause-found : goal.returns-in_err-config-clause-found
returns-in_err-config-clause-found g c =
    let is : c.from_residual.result ≡ Err c.in_err-config.field-0.0 = search rules in
    refused job_of (λ (k : Configuration). k) (λ at. config_at at c.args.file.now) (λ at k. done (document (migrated k)))
    (g.D.Depot.seen c.args.depot.now) (g.D.Depot.seen c.config_at.new.depot) (g.D.Depot.seen c.config_at.new.depot) c.in_err-config.field-0.0 c.from_residual.result is c.in_err-config.ensures.found

-- The configuration was read.
pub returns-clause-found : goal.returns-clause-found
returns-clause-found g c =
    let k = c.in_ok-config.config in
    let mid = g.D.Depot.seen c.config_at.new.depot in
    next job_of (λ (k : Configuration). k) (λ at. config_at at c.args.file.now) (λ at k. done (document (migrated k)))
    (g.D.Depot.seen c.args.depot.now) mid mid k (Ok (inputs.Document k)) c.in_ok-config.ensures.found
    (made job_of mid (inputs.Document k) (document (migrated k)) refl)

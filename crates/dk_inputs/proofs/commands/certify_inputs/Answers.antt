use Rattle.dk_inputs.proofs.Names.{◌≡◌, refl, rules, Err, Ok, Configuration, Heading, job_of, certificate, certified, config_at, ◌>>=◌, done, test}
use Rattle.dk_inputs.specs.declared.inputs.Inputs.TheVariants as inputs
use Rattle.dk_inputs.proofs.FollowLemmas.{made, next, refused, tested}
use Rattle.dk_inputs.proofs.commands.certify_inputs.Goals as goal

-- The configuration was refused.
pub returns-in_err-config-clause-found : goal.returns-in_err-config-clause-found
returns-in_err-config-clause-found g c =
    let is : c.from_residual.result ≡ Err c.in_err-config.field-0.0 = search rules in
    refused job_of (λ (k : Configuration). k) (λ at. config_at at c.args.file.now) (λ at k. test (certified k) >>= λ rows. done (certificate rows))
    (g.D.Depot.seen c.args.depot.now) (g.D.Depot.seen c.config_at.new.depot) (g.D.Depot.seen c.config_at.new.depot) c.in_err-config.field-0.0 c.from_residual.result is c.in_err-config.ensures.found

-- Its test was refused.
pub returns-in_err-header-clause-found : goal.returns-in_err-header-clause-found
returns-in_err-header-clause-found g c =
    let k = c.in_ok-config.config in
    let mid = g.D.Depot.seen c.config_at.new.depot in
    let e = c.in_err-header.field-0.0 in
    let is : c.from_residual-in_err-header.result ≡ Err e = search rules in
    next job_of (λ (k : Configuration). k) (λ at. config_at at c.args.file.now) (λ at k. test (certified k) >>= λ rows. done (certificate rows))
    (g.D.Depot.seen c.args.depot.now) mid mid k c.from_residual-in_err-header.result c.in_ok-config.ensures.found
    (refused job_of (λ (h : Heading). h.levels) (λ at. test (certified k)) (λ at y. done (certificate y))
    mid mid mid e c.from_residual-in_err-header.result is (tested (λ (h : Heading). h.levels) mid (Err e) (certified k) c.in_err-header.ensures.found))

-- The configuration was read, and it is certified.
pub returns-clause-found : goal.returns-clause-found
returns-clause-found g c =
    let k = c.in_ok-config.config in
    let mid = g.D.Depot.seen c.config_at.new.depot in
    next job_of (λ (k : Configuration). k) (λ at. config_at at c.args.file.now) (λ at k. test (certified k) >>= λ rows. done (certificate rows))
    (g.D.Depot.seen c.args.depot.now) mid mid k (Ok (inputs.Certificate c.in_ok-header.header)) c.in_ok-config.ensures.found
    (next job_of (λ (h : Heading). h.levels) (λ at. test (certified k)) (λ at rows. done (certificate rows))
    mid mid mid c.in_ok-header.header (Ok (inputs.Certificate c.in_ok-header.header))
    (tested (λ (h : Heading). h.levels) mid (Ok c.in_ok-header.header) (certified k) c.in_ok-header.ensures.found)
    (made job_of mid (inputs.Certificate c.in_ok-header.header) (certificate c.in_ok-header.header.levels) refl))

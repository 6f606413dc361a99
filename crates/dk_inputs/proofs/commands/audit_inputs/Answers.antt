use Rattle.dk_inputs.proofs.Names.{◌≡◌, rules, Err, Ok, Configuration, Heading, job_of, audit_of, certified, config_at, ◌>>=◌, test}
use Rattle.dk_inputs.proofs.FollowLemmas.{next, refused, tested}
use Rattle.dk_inputs.proofs.commands.audit_inputs.Goals as goal

-- The configuration was refused.
pub returns-in_err-config-clause-found : goal.returns-in_err-config-clause-found
returns-in_err-config-clause-found g c =
    let is : c.from_residual.result ≡ Err c.in_err-config.field-0.0 = search rules in
    refused job_of (λ (k : Configuration). k) (λ at. config_at at c.args.file.now) (λ at k. test (certified k) >>= λ rows. audit_of k c.args.ledger.now at)
    (g.D.Depot.seen c.args.depot.now) (g.D.Depot.seen c.config_at.new.depot) (g.D.Depot.seen c.config_at.new.depot) c.in_err-config.field-0.0 c.from_residual.result is c.in_err-config.ensures.found

-- Its test was refused.
pub returns-in_err-_header-clause-found : goal.returns-in_err-_header-clause-found
returns-in_err-_header-clause-found g c =
    let k = c.in_ok-config.config in
    let mid = g.D.Depot.seen c.config_at.new.depot in
    let e = c.in_err-_header.field-0.0 in
    let is : c.from_residual-in_err-_header.result ≡ Err e = search rules in
    next job_of (λ (k : Configuration). k) (λ at. config_at at c.args.file.now) (λ at k. test (certified k) >>= λ rows. audit_of k c.args.ledger.now at)
    (g.D.Depot.seen c.args.depot.now) mid mid k c.from_residual-in_err-_header.result c.in_ok-config.ensures.found
    (refused job_of (λ (h : Heading). h.levels) (λ at. test (certified k)) (λ at y. audit_of k c.args.ledger.now at)
    mid mid mid e c.from_residual-in_err-_header.result is (tested (λ (h : Heading). h.levels) mid (Err e) (certified k) c.in_err-_header.ensures.found))

-- The configuration was read, it is certified, and the audit for it is read.
pub returns-clause-found : goal.returns-clause-found
returns-clause-found g c =
    let k = c.in_ok-config.config in
    let mid = g.D.Depot.seen c.config_at.new.depot in
    next job_of (λ (k : Configuration). k) (λ at. config_at at c.args.file.now) (λ at k. test (certified k) >>= λ rows. audit_of k c.args.ledger.now at)
    (g.D.Depot.seen c.args.depot.now) mid (g.D.Depot.seen c.audited.new.depot) k c.audited.result c.in_ok-config.ensures.found
    (next job_of (λ (h : Heading). h.levels) (λ at. test (certified k)) (λ at rows. audit_of k c.args.ledger.now at)
    mid mid (g.D.Depot.seen c.audited.new.depot) c.in_ok-_header._header c.audited.result
    (tested (λ (h : Heading). h.levels) mid (Ok c.in_ok-_header._header) (certified k) c.in_ok-_header.ensures.found)
    c.audited.ensures.found)

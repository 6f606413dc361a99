use Rattle.dk_inputs.proofs.Names.{ℕ, ◌≡◌, List, refl, rules, subst, Err, Ok, Configuration, Gives, job_of, budget, config_at, process_in, ◌>>=◌, done, test}
use Rattle.dk_inputs.specs.declared.inputs.Inputs.TheVariants as inputs
use Rattle.dk_inputs.proofs.FollowLemmas.{made, next, refused, tested}
use Rattle.dk_inputs.proofs.commands.budget_inputs.Goals as goal

-- The configuration was refused.
pub returns-in_err-config-clause-found : goal.returns-in_err-config-clause-found
returns-in_err-config-clause-found g c =
    let is : c.from_residual.result ≡ Err c.in_err-config.field-0.0 = search rules in
    refused job_of (λ (k : Configuration). k) (λ at. config_at at c.args.file.now) (λ at k. test (process_in k c.args.name) >>= λ p. done (budget k p c.args.name))
    (g.D.Depot.seen c.args.depot.now) (g.D.Depot.seen c.config_at.new.depot) (g.D.Depot.seen c.config_at.new.depot) c.in_err-config.field-0.0 c.from_residual.result is c.in_err-config.ensures.found

-- Its test was refused.
pub returns-in_err-process-clause-found : goal.returns-in_err-process-clause-found
returns-in_err-process-clause-found g c =
    let k = c.in_ok-config.config in
    let mid = g.D.Depot.seen c.config_at.new.depot in
    let e = c.in_err-process.field-0.0 in
    let is : c.from_residual-in_err-process.result ≡ Err e = search rules in
    let same : c.as_str.result.now ≡ c.args.name = search rules in
    next job_of (λ (k : Configuration). k) (λ at. config_at at c.args.file.now) (λ at k. test (process_in k c.args.name) >>= λ p. done (budget k p c.args.name))
    (g.D.Depot.seen c.args.depot.now) mid mid k c.from_residual-in_err-process.result c.in_ok-config.ensures.found
    (refused job_of (λ (p : ℕ). p) (λ at. test (process_in k c.args.name)) (λ at y. done (budget k y c.args.name))
    mid mid mid e c.from_residual-in_err-process.result is (tested (λ (p : ℕ). p) mid (Err e) (process_in k c.args.name)
    (subst (λ (n : List ℕ). Gives (λ (p : ℕ). p) (Err e) (process_in k n)) same c.in_err-process.ensures.found)))

-- The configuration was read, and it has the process.
pub returns-clause-found : goal.returns-clause-found
returns-clause-found g c =
    let k = c.in_ok-config.config in
    let mid = g.D.Depot.seen c.config_at.new.depot in
    let p = c.in_ok-process.process in
    let same : c.as_str.result.now ≡ c.args.name = search rules in
    next job_of (λ (k : Configuration). k) (λ at. config_at at c.args.file.now) (λ at k. test (process_in k c.args.name) >>= λ p. done (budget k p c.args.name))
    (g.D.Depot.seen c.args.depot.now) mid mid k (Ok (inputs.Budget k p c.args.name)) c.in_ok-config.ensures.found
    (next job_of (λ (p : ℕ). p) (λ at. test (process_in k c.args.name)) (λ at p. done (budget k p c.args.name))
    mid mid mid p (Ok (inputs.Budget k p c.args.name))
    (tested (λ (p : ℕ). p) mid (Ok p) (process_in k c.args.name)
    (subst (λ (n : List ℕ). Gives (λ (p : ℕ). p) (Ok p) (process_in k n)) same c.in_ok-process.ensures.found))
    (made job_of mid (inputs.Budget k p c.args.name) (budget k p c.args.name) refl))

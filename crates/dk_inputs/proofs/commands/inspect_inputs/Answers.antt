use Rattle.dk_inputs.proofs.Names.{◌≡◌, ap, rules, sym, Err, Ok, Configuration, Heading, Loaded, job_of, certified, config_at, state, ◌>>=◌, done, programs_at, test}
use Rattle.dk_inputs.specs.declared.inputs.Inputs.TheVariants as inputs
use Rattle.dk_inputs.proofs.FollowLemmas.{made, next, refused, tested}
use Rattle.dk_inputs.proofs.commands.inspect_inputs.Goals as goal

-- The configuration was refused.
pub returns-in_err-config-clause-found : goal.returns-in_err-config-clause-found
returns-in_err-config-clause-found g c =
    let is : c.from_residual.result ≡ Err c.in_err-config.field-0.0 = search rules in
    refused job_of (λ (k : Configuration). k) (λ at. config_at at c.args.file.now) (λ at k. test (certified k) >>= λ rows. programs_at at k.processes >>= λ programs. done (state (record { config = k; programs = programs }) c.args.tick))
    (g.D.Depot.seen c.args.depot.now) (g.D.Depot.seen c.config_at.new.depot) (g.D.Depot.seen c.config_at.new.depot) c.in_err-config.field-0.0 c.from_residual.result is c.in_err-config.ensures.found

-- Its test was refused.
pub returns-in_err-header-clause-found : goal.returns-in_err-header-clause-found
returns-in_err-header-clause-found g c =
    let k = c.in_ok-config.config in
    let mid = g.D.Depot.seen c.config_at.new.depot in
    let e = c.in_err-header.field-0.0 in
    let is : c.from_residual-in_err-header.result ≡ Err e = search rules in
    next job_of (λ (k : Configuration). k) (λ at. config_at at c.args.file.now) (λ at k. test (certified k) >>= λ rows. programs_at at k.processes >>= λ programs. done (state (record { config = k; programs = programs }) c.args.tick))
    (g.D.Depot.seen c.args.depot.now) mid mid k c.from_residual-in_err-header.result c.in_ok-config.ensures.found
    (refused job_of (λ (h : Heading). h.levels) (λ at. test (certified k)) (λ at y. programs_at at k.processes >>= λ programs. done (state (record { config = k; programs = programs }) c.args.tick))
    mid mid mid e c.from_residual-in_err-header.result is (tested (λ (h : Heading). h.levels) mid (Err e) (certified k) c.in_err-header.ensures.found))

-- A program was refused.
pub returns-in_err-loaded-clause-found : goal.returns-in_err-loaded-clause-found
returns-in_err-loaded-clause-found g c =
    let k = c.in_ok-config.config in
    let mid = g.D.Depot.seen c.config_at.new.depot in
    let last = g.D.Depot.seen c.loaded.new.depot in
    let e = c.in_err-loaded.field-0.0 in
    let r = c.from_residual-in_err-loaded.result in
    let is : r ≡ Err e = search rules in
    next job_of (λ (k : Configuration). k) (λ at. config_at at c.args.file.now) (λ at k. test (certified k) >>= λ rows. programs_at at k.processes >>= λ programs. done (state (record { config = k; programs = programs }) c.args.tick))
    (g.D.Depot.seen c.args.depot.now) mid last k r c.in_ok-config.ensures.found
    (next job_of (λ (h : Heading). h.levels) (λ at. test (certified k)) (λ at rows. programs_at at k.processes >>= λ programs. done (state (record { config = k; programs = programs }) c.args.tick))
    mid mid last c.in_ok-header.header r
    (tested (λ (h : Heading). h.levels) mid (Ok c.in_ok-header.header) (certified k) c.in_ok-header.ensures.found)
    (refused job_of (λ (l : Loaded). l.programs) (λ at. programs_at at k.processes) (λ at programs. done (state (record { config = k; programs = programs }) c.args.tick))
    mid last last e r is c.in_err-loaded.ensures.found))

-- All was read, and the state is that of the programs.
pub returns-clause-found : goal.returns-clause-found
returns-clause-found g c =
    let k = c.in_ok-config.config in
    let l = c.in_ok-loaded.loaded in
    let mid = g.D.Depot.seen c.config_at.new.depot in
    let last = g.D.Depot.seen c.loaded.new.depot in
    next job_of (λ (k : Configuration). k) (λ at. config_at at c.args.file.now) (λ at k. test (certified k) >>= λ rows. programs_at at k.processes >>= λ programs. done (state (record { config = k; programs = programs }) c.args.tick))
    (g.D.Depot.seen c.args.depot.now) mid last k (Ok (inputs.State c.in_ok-header.header l c.args.tick)) c.in_ok-config.ensures.found
    (next job_of (λ (h : Heading). h.levels) (λ at. test (certified k)) (λ at rows. programs_at at k.processes >>= λ programs. done (state (record { config = k; programs = programs }) c.args.tick))
    mid mid last c.in_ok-header.header (Ok (inputs.State c.in_ok-header.header l c.args.tick))
    (tested (λ (h : Heading). h.levels) mid (Ok c.in_ok-header.header) (certified k) c.in_ok-header.ensures.found)
    (next job_of (λ (l : Loaded). l.programs) (λ at. programs_at at k.processes) (λ at programs. done (state (record { config = k; programs = programs }) c.args.tick))
    mid last last l (Ok (inputs.State c.in_ok-header.header l c.args.tick)) c.in_ok-loaded.ensures.found
    (made job_of last (inputs.State c.in_ok-header.header l c.args.tick) (state (record { config = k; programs = l.programs }) c.args.tick)
    (ap (λ (x : Configuration). state (record { config = x; programs = l.programs }) c.args.tick) (sym c.in_ok-loaded.ensures.config)))))

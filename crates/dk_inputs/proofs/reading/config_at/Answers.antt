use Rattle.dk_inputs.proofs.Names.{ℕ, Global, List, Vec, ◌≡◌, rules, subst, Err, MAX_CONFIG_BYTES, Configuration, Gives, config_in, file_at, test}
use Rattle.dk_inputs.specs.Jobs.{config_at}
use Rattle.dk_inputs.specs.declared.refusal.Refusal.TheVariants as why
use Rattle.dk_inputs.proofs.FollowLemmas.{next, refused, tested}
use Rattle.dk_inputs.proofs.reading.config_at.Goals as goal

-- The file was refused.
pub returns-in_err-bytes-clause-found : goal.returns-in_err-bytes-clause-found
unfolding config_at
returns-in_err-bytes-clause-found g c =
    let is : c.from_residual.result ≡ Err c.in_err-bytes.field-0.0 = search rules in
    refused (λ (k : Configuration). k) (λ (v : Vec ℕ Global). v.items) (λ at. file_at at c.args.name.now MAX_CONFIG_BYTES why.LongConfig) (λ at bytes. test (config_in bytes))
    (g.D.Depot.seen c.args.depot.now) (g.D.Depot.seen c.file_at.new.depot) (g.D.Depot.seen c.file_at.new.depot) c.in_err-bytes.field-0.0 c.from_residual.result is c.in_err-bytes.ensures.found

-- It was read.
pub returns-clause-found : goal.returns-clause-found
unfolding config_at
returns-clause-found g c =
    let mid = g.D.Depot.seen c.file_at.new.depot in
    let bytes = c.in_ok-bytes.bytes in
    next (λ (k : Configuration). k) (λ (v : Vec ℕ Global). v.items) (λ at. file_at at c.args.name.now MAX_CONFIG_BYTES why.LongConfig) (λ at bytes. test (config_in bytes))
    (g.D.Depot.seen c.args.depot.now) mid mid bytes c.config_in.result c.in_ok-bytes.ensures.found
    (tested (λ (k : Configuration). k) mid c.config_in.result (config_in bytes.items)
    (subst (λ (bs : List ℕ). Gives (λ (k : Configuration). k) c.config_in.result (config_in bs)) c.as_slice.ensures.value c.config_in.ensures.found))

use Rattle.dk_inputs.proofs.Names.{ℕ, Global, Vec, ◌≡◌, refl, rules, Err, Ok, MAX_PROGRAM_BYTES, job_of, code, done, file_at}
use Rattle.dk_inputs.specs.declared.refusal.Refusal.TheVariants as why
use Rattle.dk_inputs.specs.declared.inputs.Inputs.TheVariants as inputs
use Rattle.dk_inputs.proofs.FollowLemmas.{made, next, refused}
use Rattle.dk_inputs.proofs.commands.dis_inputs.Goals as goal

-- The file was refused.
pub returns-in_err-bytes-clause-found : goal.returns-in_err-bytes-clause-found
returns-in_err-bytes-clause-found g c =
    let is : c.from_residual.result ≡ Err c.in_err-bytes.field-0.0 = search rules in
    refused job_of (λ (v : Vec ℕ Global). v.items) (λ at. file_at at c.args.file.now MAX_PROGRAM_BYTES why.LongCode) (λ at bytes. done (code bytes))
    (g.D.Depot.seen c.args.depot.now) (g.D.Depot.seen c.file_at.new.depot) (g.D.Depot.seen c.file_at.new.depot) c.in_err-bytes.field-0.0 c.from_residual.result is c.in_err-bytes.ensures.found

-- It was read.
pub returns-clause-found : goal.returns-clause-found
returns-clause-found g c =
    let mid = g.D.Depot.seen c.file_at.new.depot in
    next job_of (λ (v : Vec ℕ Global). v.items) (λ at. file_at at c.args.file.now MAX_PROGRAM_BYTES why.LongCode) (λ at bytes. done (code bytes))
    (g.D.Depot.seen c.args.depot.now) mid mid c.in_ok-bytes.bytes (Ok (inputs.Code c.in_ok-bytes.bytes)) c.in_ok-bytes.ensures.found
    (made job_of mid (inputs.Code c.in_ok-bytes.bytes) (code c.in_ok-bytes.bytes.items) refl)

use Rattle.dk_inputs.proofs.Names.{◌≡◌, rules, map, string_bytes, subst, sym, Err, None, Ok, Some, option_map, Finds, meaning, job_of, job_for_words}
use Rattle.dk_inputs.specs.declared.refusal.Refusal.TheVariants as why
use Rattle.dk_inputs.proofs.FollowLemmas.{out_of_memory}
use Rattle.dk_inputs.proofs.Asked.{for_nothing, for_request}
use Rattle.dk_inputs.proofs.finding.inputs_for.Goals as goal

-- Memory ran out before the words were read.
pub returns-in_err-request-clause-found : goal.returns-in_err-request-clause-found
returns-in_err-request-clause-found g c =
    let is : c.from_residual.result ≡ Err why.NoMemory = search rules in
    out_of_memory (option_map job_of) (g.D.Depot.seen c.args.depot.now) c.from_residual.result is (job_for_words (map string_bytes c.args.words.now))

-- The request was refused.
pub returns-in_err-found_for-in-Some-clause-found : goal.returns-in_err-found_for-in-Some-clause-found
returns-in_err-found_for-in-Some-clause-found g c =
    let words = map string_bytes c.args.words.now in
    let asked : Some c.in-Some.request ≡ meaning words = search rules in
    let e = c.in_err-found_for-in-Some.field-0.0 in
    let is : c.from_residual-in_err-found_for-in-Some.result ≡ Err e = search rules in
    subst (λ r. Finds (option_map job_of) (g.D.Depot.seen c.args.depot.now) (g.D.Depot.seen c.found_for.new.depot) r (job_for_words words)) (sym is)
    (for_request words c.in-Some.request asked (g.D.Depot.seen c.args.depot.now) (g.D.Depot.seen c.found_for.new.depot) (Err e) c.in_err-found_for-in-Some.ensures.found)

-- It found its inputs.
pub returns-in_ok-found_for-in-Some-clause-found : goal.returns-in_ok-found_for-in-Some-clause-found
returns-in_ok-found_for-in-Some-clause-found g c =
    let words = map string_bytes c.args.words.now in
    let asked : Some c.in-Some.request ≡ meaning words = search rules in
    for_request words c.in-Some.request asked (g.D.Depot.seen c.args.depot.now) (g.D.Depot.seen c.found_for.new.depot) (Ok c.in_ok-found_for-in-Some.field-0) c.in_ok-found_for-in-Some.ensures.found

-- The words ask for nothing.
pub returns-in-None-clause-found : goal.returns-in-None-clause-found
returns-in-None-clause-found g c =
    let words = map string_bytes c.args.words.now in
    let nothing : None ≡ meaning words = search rules in
    for_nothing words nothing (g.D.Depot.seen c.args.depot.now)

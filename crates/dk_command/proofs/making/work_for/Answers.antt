use Rattle.dk_command.proofs.Names.{◌≡◌, rules, map, string_bytes, subst, sym, Err, None, Ok, Some, option_map, Finds, Follows, job_of, job_for_words, SomeFails, SomeDoes}
use Rattle.dk_command.proofs.Asked.{comes_to, refused_before, some_made}
use Rattle.dk_command.proofs.making.work_for.Goals as goal

-- The words were refused their inputs.
pub returns-in_err-inputs-clause-follows : goal.returns-in_err-inputs-clause-follows
returns-in_err-inputs-clause-follows g c =
    let e = c.in_err-inputs.field-0.0 in
    let is : c.from_residual.result ≡ Err e = search rules in
    refused_before (option_map job_of) SomeDoes SomeFails (g.D.Depot.seen c.args.depot.now) (g.D.Depot.seen c.inputs_for.new.depot) (job_for_words (map string_bytes c.args.words.now)) e c.from_residual.result is c.in_err-inputs.ensures.found

-- The inputs came to a refusal.
pub returns-in_err-work_of-in-Some-clause-follows : goal.returns-in_err-work_of-in-Some-clause-follows
returns-in_err-work_of-in-Some-clause-follows g c =
    let e = c.in_err-work_of-in-Some.field-0.0 in
    let is : c.from_residual-in_err-work_of-in-Some.result ≡ Err e = search rules in
    let found : c.inputs_for.result ≡ Ok (Some c.in-Some.inputs) = search rules in
    subst (λ r. Follows SomeDoes SomeFails (g.D.Depot.seen c.args.depot.now) (g.D.Depot.seen c.inputs_for.new.depot) r (job_for_words (map string_bytes c.args.words.now))) (sym is)
    (comes_to (option_map job_of) SomeDoes SomeFails (g.D.Depot.seen c.args.depot.now) (g.D.Depot.seen c.inputs_for.new.depot) (job_for_words (map string_bytes c.args.words.now)) (Some c.in-Some.inputs) (Err e)
    (subst (λ r. Finds (option_map job_of) (g.D.Depot.seen c.args.depot.now) (g.D.Depot.seen c.inputs_for.new.depot) r (job_for_words (map string_bytes c.args.words.now))) found c.inputs_for.ensures.found)
    (some_made (Err e) c.in-Some.inputs c.in_err-work_of-in-Some.ensures.does))

-- They came to work.
pub returns-in_ok-work_of-in-Some-clause-follows : goal.returns-in_ok-work_of-in-Some-clause-follows
returns-in_ok-work_of-in-Some-clause-follows g c =
    let work = c.in_ok-work_of-in-Some.field-0 in
    let found : c.inputs_for.result ≡ Ok (Some c.in-Some.inputs) = search rules in
    comes_to (option_map job_of) SomeDoes SomeFails (g.D.Depot.seen c.args.depot.now) (g.D.Depot.seen c.inputs_for.new.depot) (job_for_words (map string_bytes c.args.words.now)) (Some c.in-Some.inputs) (Ok (Some work))
    (subst (λ r. Finds (option_map job_of) (g.D.Depot.seen c.args.depot.now) (g.D.Depot.seen c.inputs_for.new.depot) r (job_for_words (map string_bytes c.args.words.now))) found c.inputs_for.ensures.found)
    (some_made (Ok work) c.in-Some.inputs c.in_ok-work_of-in-Some.ensures.does)

-- The words ask for nothing.
pub returns-in-None-clause-follows : goal.returns-in-None-clause-follows
returns-in-None-clause-follows g c =
    let found : c.inputs_for.result ≡ Ok None = search rules in
    comes_to (option_map job_of) SomeDoes SomeFails (g.D.Depot.seen c.args.depot.now) (g.D.Depot.seen c.inputs_for.new.depot) (job_for_words (map string_bytes c.args.words.now)) None (Ok None)
    (subst (λ r. Finds (option_map job_of) (g.D.Depot.seen c.args.depot.now) (g.D.Depot.seen c.inputs_for.new.depot) r (job_for_words (map string_bytes c.args.words.now))) found c.inputs_for.ensures.found)
    tt

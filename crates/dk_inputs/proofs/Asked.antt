-- What words find, by what they ask for.
use Rattle.dk_inputs.proofs.Names.{ℕ, ◌≡◌, ap, List, refl, subst, add-zero, sym, Option, Some, None, Result, Ok, Err, IsErrOf, option_map, DepotView, Request, meaning, Refusal, Inputs, Finds, Refuses, Tells, job_of, Job, some_job_for, job_for, some_found, Reads}
use Rattle.dk_inputs.specs.Jobs.{job_for_words}
use Rattle.dk_inputs.specs.declared.refusal.Refusal.TheVariants as why
use Rattle.dk_inputs.proofs.FollowLemmas.{Never, Same, made, some_map}

asked_in_words : (words : List (List ℕ)) (o : Option Request) → o ≡ meaning words → some_job_for o ≡ job_for_words words
unfolding job_for_words
asked_in_words words o is = ap some_job_for is

some_refused : (found : Result Job Refusal) (e : Refusal) → Refuses (Same job_of) Never found e
    → Refuses (Same (option_map job_of)) Never (some_found found) e
some_refused (Ok job) e never = never
some_refused (Err d) e same = same

some_told : (r : Result Inputs Refusal) (p : Reads Job) (before after : ℕ) → Tells (Same job_of) Never r p before after
    → Tells (Same (option_map job_of)) Never (some_found r) (record { given = p.given; found = some_found p.found }) before after
some_told (Ok x) p before after (job, found, is, given) = (Some job, ap some_found found, ap (λ y. Some y) is, given)
some_told (Err e) p before after told = λ quiet. (some_refused p.found e (told quiet).0, (told quiet).1)

refused_too : (r : Result Inputs Refusal) (e : Refusal) → IsErrOf (some_found r) e → IsErrOf r e
refused_too (Ok x) e is = absurd (cc)
refused_too (Err d) e is = let same : d ≡ e = cc in ap (λ x. Err x) same

-- what a request finds, the words that ask for it find
pub for_request : (words : List (List ℕ)) (request : Request) → Some request ≡ meaning words
    → (old new : DepotView) (r : Result Inputs Refusal) → Finds job_of old new r (job_for request)
    → Finds (option_map job_of) old new (some_found r) (job_for_words words)
for_request words request is old new r f =
    subst (Finds (option_map job_of) old new (some_found r)) (asked_in_words words (Some request) is) (record {
      told = some_map _ _ old.files (λ at told. some_told r (job_for request at) old.given new.given told) f.told;
      cause = λ failed. f.cause (refused_too r why.Depot failed);
      faults_stay = λ other. f.faults_stay (λ failed. other (ap some_found failed));
      held = some_map _ _ old.files (λ at held apart. held (λ failed. apart (ap some_found failed))) f.held;
      left = f.left;
    })

-- words that ask for nothing find nothing
pub for_nothing : (words : List (List ℕ)) → None ≡ meaning words → (d : DepotView)
    → Finds (option_map job_of) d d (Ok None) (job_for_words words)
for_nothing words is d =
    subst (Finds (option_map job_of) d d (Ok None)) (asked_in_words words None is)
    (made (option_map job_of) d None None refl)

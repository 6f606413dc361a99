-- What one writing leaves, seen as what the call leaves.
use Rattle.dk_session.proofs.Names.{◌≡◌, ℕ, List, sym, subst, inl, inr, true, false, Option, Some, None, Result, Ok, Err, IfSome, cases_Bool, SinkView, Refusal, Status, is_silent, refusal_status, usage_text, Comes, Says, SomeFails, Job, job_for_words, Files, Refuses, Tells, HasText, SomeDoes, Work, some_map, IsSilent, Leaves, StandsInOutput}
use Rattle.dk_inputs.specs.declared.status.Status.TheVariants as status
use Rattle.dk_session.proofs.Statuses.{answer_speaks, silent_status}

module _ {S : Type 0} (seen : S → SinkView) where
  -- what stands for one relation stands for a weaker one, where something was written
  pub leaves_more : (Stands Other : List ℕ → Status → Type 0) (a b : S) (s : Status)
      → ((IsSilent s → ⊥) → (text : List ℕ) (ended : Status) → Stands text ended → Other text ended)
      → Leaves seen Stands a b s → Leaves seen Other a b s
  leaves_more Stands Other a b s more left = record {
    whole = λ answer. (let (text, appended, stands) = left.whole answer in (text, appended, more (answer_speaks s answer) text s stands));
    cut = λ failed. (let (text, appended, (ended, stands)) = left.cut failed in
        (text, appended, (ended, more (λ silent. subst IsSilent failed silent) text ended stands)));
    silent = left.silent;
    cause = left.cause;
    stays = left.stays;
    faults_rise = left.faults_rise;
    capacity_stays = left.capacity_stays;
  }

work_comes : (work : Work) (job : Option Job) (text : List ℕ) (ended : Status) → SomeDoes (Some work) job → HasText work text → ended ≡ status.Done → Comes (Ok job) text ended
work_comes work None text ended does has done = absurd does
work_comes work (Some job) text ended does has done = inl (does.0 text has, done)

nothing_comes : (job : Option Job) (text : List ℕ) (ended : Status) → SomeDoes None job → (text ≡ usage_text) × (ended ≡ status.Usage) → Comes (Ok job) text ended
nothing_comes None text ended does is = is
nothing_comes (Some job) text ended does is = absurd does

-- the text of the work stands in Output
pub work_stands : (files : Option Files) (words : List (List ℕ)) (work : Work) (before after : ℕ) → IfSome files (λ at. Tells SomeDoes SomeFails (Ok (Some work)) (job_for_words words at) before after)
    → (text : List ℕ) (ended : Status) → HasText work text × (ended ≡ status.Done) → StandsInOutput files words text ended
work_stands files words work before after told text ended (has, done) =
    some_map _ _ files (λ at tells.
    (let (job, found, does, given) = tells in
    let same : (job_for_words words at).found ≡ Ok job = found in
    subst (λ r. Comes r text ended) (sym same) (work_comes work job text ended does has done))) told

-- the usage line stands in Output where the words ask for nothing
pub usage_stands : (files : Option Files) (words : List (List ℕ)) (before after : ℕ) → IfSome files (λ at. Tells {X = Option Work} SomeDoes SomeFails (Ok None) (job_for_words words at) before after)
    → (text : List ℕ) (ended : Status) → (text ≡ usage_text) × (ended ≡ status.Usage) → StandsInOutput files words text ended
usage_stands files words before after told text ended is =
    some_map _ _ files (λ at tells.
    (let (job, found, does, given) = tells in
    let same : (job_for_words words at).found ≡ Ok job = found in
    subst (λ r. Comes r text ended) (sym same) (nothing_comes job text ended does is))) told

-- what the steps are refused for comes of them
refusal_comes : (found : Result (Option Job) Refusal) (e : Refusal) (text : List ℕ) (ended : Status) → Refuses {X = Option Work} SomeDoes SomeFails found e → Says e text ended → Comes found text ended
refusal_comes (Ok None) e text ended fails says = absurd fails
refusal_comes (Ok (Some job)) e text ended fails says = inr (e, fails, says)
refusal_comes (Err d) e text ended same says = subst (λ d. Says d text ended) (sym same) says

-- a refusal that isn't silent stands in Output
pub refusal_stands : (files : Option Files) (words : List (List ℕ)) (e : Refusal) (before after : ℕ) → IfSome files (λ at. Tells {X = Option Work} SomeDoes SomeFails (Err e) (job_for_words words at) before after)
    → is_silent e ≡ false → (text : List ℕ) (ended : Status) → Says e text ended → StandsInOutput files words text ended
refusal_stands files words e before after told loud text ended says =
    some_map _ _ files (λ at tells. refusal_comes (job_for_words words at).found e text ended (tells loud).0 says) told

-- a status that has a text comes of a refusal that has one
pub is_loud : (e : Refusal) (s : Status) → (is_silent e ≡ true → s ≡ refusal_status e) → (IsSilent s → ⊥) → is_silent e ≡ false
is_loud e s quiet speaks =
    elim (cases_Bool (is_silent e)) [
      | inl silent ↦ absurd (speaks (subst IsSilent (sym (quiet silent)) (silent_status e silent)))
      | inr loud ↦ loud
    ]

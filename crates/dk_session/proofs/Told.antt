-- What the reading and the writing tell together.
use Rattle.dk_session.proofs.Names.{◌≡◌, ◌∙◌, ℕ, List, refl, sym, subst, inl, inr, true, Option, Some, None, Ok, Err, IfOk, IfSome, Rises, SinkView, Refusal, Status, Work, is_silent, refusal_status, IsAnswer, Says, SomeFails, Job, job_for_words, Keeps, Files, Tells, SomeDoes, Leaves, GivesExactly, StandsInOutput, WasReceivedBoundedGranted, IsExactly, HasDoneOutput, IsDoneOrNoMemory, Unfailing, some_all, some_map}
use Rattle.dk_inputs.specs.declared.status.Status.TheVariants as status
use Rattle.dk_session.proofs.Leaving.{is_loud}
use Rattle.dk_session.proofs.Outcomes.{one_status, refused_for, status_is}
use Rattle.dk_session.proofs.Statuses.{never_done, never_usage}

promised : (work : Work) (job : Option Job) → SomeDoes (Some work) job → IfSome job Keeps
promised work None does = tt
promised work (Some job) does = does.1

module _ (files : Option Files) (words : List (List ℕ)) (before after : ℕ) where
  -- work that is done keeps what a run promises
  pub kept : (work : Work) (s : Status) → IfSome files (λ at. Tells SomeDoes SomeFails (Ok (Some work)) (job_for_words words at) before after) → WasReceivedBoundedGranted files words s
  kept work s told =
      some_map _ _ files (λ at tells done.
      (let (job, found, does, given) = tells in subst (λ r. IfOk r (λ j. IfSome j Keeps)) (sym found) (promised work job does))) told

  pub given_for_work : (work : Work) (s : Status) → IfSome files (λ at. Tells SomeDoes SomeFails (Ok (Some work)) (job_for_words words at) before after) → GivesExactly files words s before after
  given_for_work work s told = some_map _ _ files (λ at tells speaks. (let (job, found, does, given) = tells in given)) told

  pub given_for_usage : (s : Status) → IfSome files (λ at. Tells {X = Option Work} SomeDoes SomeFails (Ok None) (job_for_words words at) before after) → GivesExactly files words s before after
  given_for_usage s told = some_map _ _ files (λ at tells speaks. (let (job, found, does, given) = tells in given)) told

  pub given_for_refusal : (e : Refusal) (s : Status) → (is_silent e ≡ true → s ≡ refusal_status e)
      → IfSome files (λ at. Tells {X = Option Work} SomeDoes SomeFails (Err e) (job_for_words words at) before after) → GivesExactly files words s before after
  given_for_refusal e s quiet told = some_map _ _ files (λ at tells speaks. (tells (is_loud e s quiet speaks)).1) told

module _ (files : Option Files) (words : List (List ℕ)) where
  -- a refusal isn't done
  pub undone : (s : Status) → (s ≡ status.Done → ⊥) → WasReceivedBoundedGranted files words s
  undone s never = go files
    where
      go : (o : Option Files) → WasReceivedBoundedGranted o words s
      go None = tt
      go (Some at) = λ done. absurd (never done)

module _ {S : Type 0} (seen : S → SinkView) (a b : S) (s : Status) where
  pub said_undone : (e : Refusal) → Leaves seen (Says e) a b s → s ≡ status.Done → ⊥
  said_undone e left done =
      let (text, appended, says) = left.whole (subst IsAnswer (sym done) tt) in
      never_done e (sym done ∙ says.1)

  pub said_no_usage : (e : Refusal) → Leaves seen (Says e) a b s → s ≡ status.Usage → ⊥
  said_no_usage e left is =
      let (text, appended, says) = left.whole (subst IsAnswer (sym is) tt) in
      never_usage e (sym is ∙ says.1)

  module _ (words : List (List ℕ)) where
    -- an answer is of a status exactly where it comes of a refusal of that status
    pub exactly : (r : Status) → (r ≡ status.Done → ⊥) → (r ≡ status.Usage → ⊥) → (files : Option Files) → Leaves seen (StandsInOutput files words) a b s → IsExactly r files words s
    exactly r undone meant None left = tt
    exactly r undone meant (Some at) left = λ answer.
        (let (text, appended, comes) = left.whole answer in (
          λ is. (let (e, refused, same) = refused_for (job_for_words words at).found text s comes (λ done. undone (sym is ∙ done)) (λ usage. meant (sym is ∙ usage)) in (e, refused, same ∙ is)),
          λ cause. (let (e, refused, same) = cause in status_is (job_for_words words at).found text s e comes refused ∙ same),
        ))

    -- where Output's status is Done, an answer is Done
    pub answered : (files : Option Files) → Leaves seen (StandsInOutput files words) a b s → IsAnswer s → IfSome files (λ at. HasDoneOutput words at → s ≡ status.Done)
    answered None left answer = tt
    answered (Some at) left answer = λ can.
        (let (text, appended, comes) = left.whole answer in
        let (other, is) = can in
        one_status (job_for_words words at).found text other s status.Done comes is)

    pub completed : (files : Option Files) (old new : ℕ) → Leaves seen (StandsInOutput files words) a b s → (s ≡ status.DepotFault → Rises old new)
        → IfSome files (λ at. HasDoneOutput words at → Unfailing old new → Unfailing (seen a).faults (seen b).faults → IsDoneOrNoMemory s)
    completed files old new left read = by_status s (λ answer. answered files left answer) read left.cause
      where
        by_status : (s : Status) → (IsAnswer s → IfSome files (λ at. HasDoneOutput words at → s ≡ status.Done)) → (s ≡ status.DepotFault → Rises old new) → (s ≡ status.SinkFault → Rises (seen a).faults (seen b).faults)
            → IfSome files (λ at. HasDoneOutput words at → Unfailing old new → Unfailing (seen a).faults (seen b).faults → IsDoneOrNoMemory s)
        by_status status.DepotFault answer read write = some_all _ files (λ at can reads writes. absurd (reads (read refl)))
        by_status status.SinkFault answer read write = some_all _ files (λ at can reads writes. absurd (writes (write refl)))
        by_status status.NoMemory answer read write = some_all _ files (λ at can reads writes. inr refl)
        by_status _ answer read write = some_map _ _ files (λ at done can reads writes. inl (done can)) (answer tt)

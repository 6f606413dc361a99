-- What words come to, by the inputs that were found for them.
use Rattle.dk_command.proofs.Names.{ℕ, ◌≡◌, ◌∙◌, ap, subst, sym, true, false≢true, Some, None, Result, Ok, Err, IsErrOf, option_map, DepotView, Refusal, Inputs, is_failed_read, is_silent, Finds, Follows, Makes, Refuses, Tells, job_of, some_found, Files, Reads, Never, Same, some_map, Work, Fails, SomeFails, Does, SomeDoes}
use Rattle.dk_inputs.specs.declared.refusal.Refusal.TheVariants as why

-- what was found for the words comes to this work
pub some_made : (r : Result Work Refusal) (x : Inputs) → Makes Does Fails r (job_of x)
    → Makes SomeDoes SomeFails (some_found r) (option_map job_of (Some x))
some_made (Ok w) x does = does
some_made (Err e) x fails = fails

module _ {X Y Z : Type 0} (v : X → Y) (R : Z → Y → Type 0) (F : Y → Refusal → Type 0) where
  no_failed_read : (r : Result Z Refusal) (y : Y) → Makes R F r y → IsErrOf r why.Depot → ⊥
  no_failed_read (Ok z) y makes is = cc
  no_failed_read (Err d) y makes is = false≢true (sym makes.0 ∙ ap is_failed_read (let same : d ≡ why.Depot = cc in same))

  told_work : (r : Result Z Refusal) (x : X) (s : Reads Y) (before after : ℕ) → Makes R F r (v x) → Tells (Same v) Never (Ok x) s before after → Tells R F r s before after
  told_work (Ok z) x s before after makes (y, found, is, given) = (y, found, subst (R z) (sym is) makes, given)
  told_work (Err e) x s before after makes (y, found, is, given) = λ quiet. (subst (λ t. Refuses {X = Z} R F t e) (sym (found ∙ ap (λ z. Ok z) is)) (makes.1 quiet), given)

  told_refusal : (e : Refusal) (s : Reads Y) (before after : ℕ) → Tells (Same v) Never (Err e) s before after → Tells R F (Err e) s before after
  told_refusal e s before after told = λ quiet. (refused s.found (told quiet).0, (told quiet).1)
    where
      refused : (found : Result Y Refusal) → Refuses {X = X} (Same v) Never found e → Refuses {X = Z} R F found e
      refused (Ok y) never = absurd never
      refused (Err d) same = same

  module _ (old new : DepotView) (reads : Files → Reads Y) where
    -- what was found comes to this
    pub comes_to : (x : X) (r : Result Z Refusal) → Finds v old new (Ok x) reads → Makes R F r (v x) → Follows R F old new r reads
    comes_to x r one makes = record {
      told = some_map _ _ old.files (λ at told. told_work r x (reads at) old.given new.given makes told) one.told;
      cause = λ failed. absurd (no_failed_read r (v x) makes failed);
      faults_stay = λ other. one.faults_stay (λ is. cc);
      held = one.held;
      left = one.left;
    }

    -- a refusal stays one
    pub refused_before : (e : Refusal) (r : Result Z Refusal) → r ≡ Err e → Finds v old new (Err e) reads → Follows R F old new r reads
    refused_before e r is one = subst (λ t. Follows R F old new t reads) (sym is) (record {
      told = some_map _ _ old.files (λ at told. told_refusal e (reads at) old.given new.given told) one.told;
      cause = λ failed. one.cause (let same : e ≡ why.Depot = cc in ap (λ d. Err d) same);
      faults_stay = λ other. one.faults_stay (λ failed. other (let same : e ≡ why.Depot = cc in ap (λ d. Err d) same));
      held = one.held;
      left = one.left;
    })

-- A job that can't be done has no text, and the refusal is of the program's status.
use Rattle.dk_session.proofs.Names.{◌≡◌, ◌∙◌, ℕ, List, refl, sym, ap, subst, inl, inr, Option, Some, None, Result, Ok, Err, Refusal, Status, refusal_status, Comes, Fails, IsFoundIn, IsText, Job, ledger, source, findings, Configuration, Journal, one_text, Finding, IsFinding, one, Outcome, one_outcome, IsRefusedFor}
use Rattle.dk_inputs.specs.declared.refusal.Refusal.TheVariants as why
use Rattle.dk_inputs.specs.declared.status.Status.TheVariants as status

-- an audit of the same bytes finds one thing
one_found : (c : Configuration) (bytes : List ℕ) (f g : Finding) → IsFoundIn c bytes f → IsFoundIn c bytes g → f ≡ g
one_found c bytes f g (j, readable, same, finding) (k, also, too, other) =
    let equal : j ≡ k = one_text j k readable also (same ∙ sym too) in one c k f g (subst (λ (x : Journal). IsFinding c x f) equal finding) other

-- one line for each job that can fail
pub no_text : (job : Job) (e : Refusal) (text : List ℕ) → Fails job e → IsText job text → ⊥
no_text (ledger bytes output) (why.LedgerLine line) text fails (j, readable, same, is) = fails.1 j readable same
no_text (source bytes) (why.SourceLine number cause) text fails is =
    absurd (let same : Outcome.fault number cause ≡ Outcome.program text = one_outcome bytes (Outcome.fault number cause) (Outcome.program text) fails is in cc)
no_text (findings c bytes) (why.LedgerLine line) text fails (n, (j, readable, same, finding), is) = fails.1 j readable same
no_text (findings c bytes) why.HeaderDiffers text fails (n, found, is) =
    absurd (let same : Finding.Header ≡ Finding.Passed n = one_found c bytes Finding.Header (Finding.Passed n) fails found in cc)
no_text (findings c bytes) (why.WrongLabel tick) text fails (n, found, is) =
    absurd (let same : Finding.Label tick ≡ Finding.Passed n = one_found c bytes (Finding.Label tick) (Finding.Passed n) fails found in cc)
no_text (findings c bytes) (why.WrongEvent tick) text fails (n, found, is) =
    absurd (let same : Finding.Event tick ≡ Finding.Passed n = one_found c bytes (Finding.Event tick) (Finding.Passed n) fails found in cc)
no_text _ _ text fails is = fails

pub fails_program : (job : Job) (e : Refusal) → Fails job e → refusal_status e ≡ status.Program
fails_program (ledger bytes output) (why.LedgerLine line) fails = refl
fails_program (source bytes) (why.SourceLine number cause) fails = refl
fails_program (findings c bytes) (why.LedgerLine line) fails = refl
fails_program (findings c bytes) why.HeaderDiffers fails = refl
fails_program (findings c bytes) (why.WrongLabel tick) fails = refl
fails_program (findings c bytes) (why.WrongEvent tick) fails = refl
fails_program _ _ fails = absurd fails

-- what comes of a refusal has its status
pub status_is : (found : Result (Option Job) Refusal) (text : List ℕ) (ended : Status) (e : Refusal) → Comes found text ended → IsRefusedFor found e → ended ≡ refusal_status e
status_is (Err d) text ended e says same = says.1 ∙ ap refusal_status same
status_is (Ok None) text ended e comes fails = absurd fails
status_is (Ok (Some job)) text ended e comes fails =
    elim comes [
      | inl done ↦ absurd (no_text job e text fails done.0)
      | inr other ↦ (let (d, also, says) = other in says.1 ∙ fails_program job d also ∙ sym (fails_program job e fails))
    ]

-- an answer that is neither Done nor Usage comes of a refusal
pub refused_for : (found : Result (Option Job) Refusal) (text : List ℕ) (ended : Status) → Comes found text ended → (ended ≡ status.Done → ⊥) → (ended ≡ status.Usage → ⊥) → (e : Refusal) × IsRefusedFor found e × (refusal_status e ≡ ended)
refused_for (Err d) text ended says undone meant = (d, refl, sym says.1)
refused_for (Ok None) text ended comes undone meant = absurd (meant comes.1)
refused_for (Ok (Some job)) text ended comes undone meant =
    elim comes [
      | inl done ↦ absurd (undone done.1)
      | inr other ↦ (let (d, fails, says) = other in (d, fails, sym says.1))
    ]

-- one status stands in Output
pub one_status : (found : Result (Option Job) Refusal) (one two : List ℕ) (s r : Status) → Comes found one s → Comes found two r → s ≡ r
one_status (Err d) one two s r a b = a.1 ∙ sym b.1
one_status (Ok None) one two s r a b = a.1 ∙ sym b.1
one_status (Ok (Some job)) one two s r a b =
    elim a [
      | inl done ↦
          (elim b [
            | inl also ↦ done.1 ∙ sym also.1
            | inr other ↦ (let (e, fails, says) = other in absurd (no_text job e one fails done.0))
          ])
      | inr other ↦ (let (e, fails, says) = other in sym (status_is (Ok (Some job)) two r e b fails ∙ sym says.1))
    ]

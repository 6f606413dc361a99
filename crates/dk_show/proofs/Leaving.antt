-- What stands in the output, and what a call leaves.
use Rattle.dk_show.proofs.Names.{ℕ, ◌≡◌, ◌⊎◌, inl, inr, List, sym, subst, refl, Option, Some, None, IfSome, Ok, Err, true, false, SinkView, Work, Refusal, Status, IsAnswer, is_silent, refusal_status, refusal_text, Leaves, Says, HasText, ComesTo, ended_of}
use Rattle.dk_show.specs.declared.refusal.Refusal.TheVariants as why
use Rattle.dk_show.specs.declared.status.Status.TheVariants as status
use Rattle.dk_show.specs.Output.{Files}

-- what stands by the files, where they are told
module _ (Stands : Files → List ℕ → Status → Type 0) where
  pub refusal_stands : (files : Option Files) (e : Refusal) → IfSome files (λ at. ComesTo (Stands at) (Err e)) → is_silent e ≡ false
      → (text : List ℕ) (ended : Status) → Says e text ended → IfSome files (λ at. Stands at text ended)
  refusal_stands None e comes loud text ended says = tt
  refusal_stands (Some at) e comes loud text ended says =
      subst (λ t. Stands at t ended) (sym says.0) (subst (λ s. Stands at (refusal_text e) s) (sym says.1) (comes loud))

  pub work_stands : (files : Option Files) (w : Work) → IfSome files (λ at. ComesTo (Stands at) (Ok w))
      → (text : List ℕ) (ended : Status) → HasText w text × (ended ≡ ended_of w) → IfSome files (λ at. Stands at text ended)
  work_stands None w comes text ended has = tt
  work_stands (Some at) w comes text ended has = subst (λ s. Stands at text s) (sym has.1) (comes text has.0)

-- what a refusal leaves that isn't silent
pub loud : (e : Refusal) (s : Status) → (is_silent e ≡ true → s ≡ refusal_status e) → IsAnswer s ⊎ (s ≡ status.SinkFault) → is_silent e ≡ false
loud why.Depot s silent (inl answer) = absurd (subst IsAnswer (silent refl) answer)
loud why.Depot s silent (inr sink) = let quiet = silent refl in cc
loud why.NoMemory s silent (inl answer) = absurd (subst IsAnswer (silent refl) answer)
loud why.NoMemory s silent (inr sink) = let quiet = silent refl in cc
loud why.LongConfig s silent other = refl
loud why.NotToml s silent other = refl
loud why.LongSource s silent other = refl
loud why.LongNeeds s silent other = refl
loud why.OtherLedger s silent other = refl
loud why.LongProfile s silent other = refl
loud (why.Rule f) s silent other = refl
loud why.NoProcess s silent other = refl
loud (why.LongProgram p) s silent other = refl
loud (why.Uncertified level needs window) s silent other = refl
loud why.LongLedger s silent other = refl
loud (why.LedgerLine line) s silent other = refl
loud (why.RangeEnds ticks) s silent other = refl
loud (why.TooManyGroups tick) s silent other = refl

module _ {S : Type 0} (seen : S → SinkView) (P Q : List ℕ → Status → Type 0) (old new : S) (ended : Status) where
  -- where it is told what stands more widely
  pub leaves_wider : ((text : List ℕ) (s : Status) → P text s → Q text s) → Leaves seen P old new ended → Leaves seen Q old new ended
  leaves_wider wider left =
      record {
        whole = λ answer. let w = left.whole answer in (w.0, w.1, wider w.0 ended w.2);
        cut = λ is. let w = left.cut is in (w.0, w.1, (w.2.0, wider w.0 w.2.0 w.2.1));
        silent = left.silent;
        memory = λ is. elim (left.memory is) [
          | inl same ↦ inl same
          | inr w ↦ inr (w.0, w.1, (w.2.0, wider w.0 w.2.0 w.2.1))
        ];
        cause = left.cause;
        stays = left.stays;
        faults_rise = left.faults_rise;
        capacity_stays = left.capacity_stays;
      }

  -- of a refusal, which wrote nothing where memory ran out
  pub leaves_said : (IsAnswer ended ⊎ (ended ≡ status.SinkFault) → (text : List ℕ) (s : Status) → P text s → Q text s) → (ended ≡ status.NoMemory → new ≡ old)
      → Leaves seen P old new ended → Leaves seen Q old new ended
  leaves_said wider untouched left =
      record {
        whole = λ answer. let w = left.whole answer in (w.0, w.1, wider (inl answer) w.0 ended w.2);
        cut = λ is. let w = left.cut is in (w.0, w.1, (w.2.0, wider (inr is) w.0 w.2.0 w.2.1));
        silent = left.silent;
        memory = λ is. inl (untouched is);
        cause = left.cause;
        stays = left.stays;
        faults_rise = left.faults_rise;
        capacity_stays = left.capacity_stays;
      }

-- The first line with a cause is the one that the outcome tells.
use Rattle.dk_asm.proofs.Imports.{◌≡◌, ◌∙◌, sym, ap, refl, ◌<◌, ◌≤◌, ◌+◌, ℕ, zero, suc, List, [], ◌∷◌, ◌++◌, length, drop, arith, Option, Some, None, ⊎_elim, append_assoc, slice_get, cases_lt, LineFault, causes_from, causes_of, first_cause, fault_of, Line, cause_at, Outcome, IsOutcome, Assembled, nat_tests}
use Rattle.dk_asm.proofs.Causes.{none_past}
use Rattle.dk_asm.proofs.Outcomes.{were_read}

-- a list from one of its places on
pub from_place : {A : Type 0} (xs : List A) (i : ℕ) (x : A) → slice_get xs i ≡ Some x → drop i xs ≡ x ∷ drop (suc i) xs
from_place [] i x at = absurd (cc)
from_place (y ∷ ys) zero x at = let same : y ≡ x = cc in ap (λ z. z ∷ ys) same
from_place (y ∷ ys) (suc i) x at = from_place ys i x at

-- one more cause
pub one_more : (source : List Line) (i : ℕ) (line : Line) (found : List (Option LineFault)) (cause : Option LineFault) → slice_get source i ≡ Some line → cause ≡ cause_at source i
    → (found ++ cause ∷ []) ++ causes_from source (i + 1) (drop (i + 1) source) ≡ found ++ causes_from source i (drop i source)
one_more source i line found cause at is =
    ap (λ k. (found ++ cause ∷ []) ++ causes_from source k (drop k source)) next
    ∙ append_assoc found (cause ∷ []) (causes_from source (suc i) (drop (suc i) source))
    ∙ ap (λ c. found ++ c ∷ causes_from source (suc i) (drop (suc i) source)) is
    ∙ ap (λ ls. found ++ causes_from source i ls) (sym (from_place source i line at))
  where
    next : i + 1 ≡ suc i
    next = omega arith

none_told : (source : List Line) (i n : ℕ) (lines : List Line) → ((j : ℕ) → cause_at source j ≡ None) → first_cause n (causes_from source i lines) ≡ None
none_told source i n [] none = refl
none_told source i n (line ∷ lines) none = ap (λ c. first_cause n (c ∷ causes_from source (suc i) lines)) (none i) ∙ none_told source (suc i) (suc n) lines none

one_told : (source : List Line) (i j : ℕ) (lines : List Line) (cause : LineFault) → cause_at source i ≡ Some cause → ((k : ℕ) → k < i → cause_at source k ≡ None) → j ≤ i → i < j + length lines
    → first_cause (suc j) (causes_from source j lines) ≡ Some (suc i, cause)
one_told source i j [] cause at none from to = absurd (omega (arith, from, to))
one_told source i j (line ∷ lines) cause at none from to =
    ⊎_elim
    (λ below. ap (λ c. first_cause (suc j) (c ∷ causes_from source (suc j) lines)) (none j below) ∙ one_told source i (suc j) lines cause at none (omega (arith, below)) (omega (arith, to)))
    (λ past. here (omega (arith, past, from)))
    (cases_lt j i)
  where
    here : j ≡ i → first_cause (suc j) (cause_at source j ∷ causes_from source (suc j) lines) ≡ Some (suc i, cause)
    here same =
        ap (λ c. first_cause (suc j) (c ∷ causes_from source (suc j) lines)) (ap (cause_at source) same ∙ at)
        ∙ ap (λ k. Some (suc k, cause)) same

told_is : (source : List Line) (outcome : Outcome) → IsOutcome source outcome → first_cause 1 (causes_from source 0 source) ≡ fault_of outcome
told_is source (Outcome.program code) is = none_told source 0 1 source is.0
told_is source (Outcome.fault n cause) is = ⊎_elim (λ within. found within) (λ past. absurd (outside past)) (cases_lt is.0 (length source))
  where
    found : is.0 < length source → first_cause 1 (causes_from source 0 source) ≡ Some (n, cause)
    found within =
        one_told source is.0 0 source cause is.2 is.3 (omega arith) (omega (arith, within))
        ∙ ap (λ k. Some (k, cause)) (let number = is.1 in omega (arith, number))

    outside : length source ≤ is.0 → ⊥
    outside past = let both : None ≡ Some cause = sym (none_past source is.0 past) ∙ is.2 in absurd (cc)

pub tells : (text : List ℕ) (outcome : Outcome) → Assembled text outcome → first_cause 1 (causes_of text) ≡ fault_of outcome
tells text outcome is = grind (arith, nat_tests, were_read, told_is)

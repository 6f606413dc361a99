-- What is drawn of a ledger is that of the one ledger of its bytes.
use Rattle.dk_show.proofs.Names.{ℕ, ◌≡◌, ◌∙◌, ◌≤◌, List, length, inr, sym, ap, subst, refl, Option, Some, None, IfSome, Result, Ok, Err, Journal, IsReadable, text_of, one_text, RangeRequest, Work, Refusal, Status, refusal_status, refusal_text, IsDrawn, drawn_text, from_of, to_of, IsOf, ComesTo, ended_of}
use Rattle.dk_show.specs.declared.status.Status.TheVariants as status
use Rattle.dk_show.specs.Output.{Files, IsOfNamed}

pub is_drawn : (r : RangeRequest) (j k : Journal) (bytes text : List ℕ) (from to ticks : ℕ) → IsReadable j → text_of j ≡ bytes → IsReadable k → text_of k ≡ bytes
    → ticks ≡ length j.entries → to ≤ ticks → from ≡ from_of r.range → to ≡ to_of r.range ticks → text ≡ drawn_text r.drawing from to k → IsDrawn r j text status.Done
is_drawn r j k bytes text from to ticks readable is readable2 is2 count within is_from is_to drawn =
    let same = one_text k j readable2 readable (is2 ∙ sym is) in
    let all : to ≡ to_of r.range (length j.entries) = is_to ∙ ap (to_of r.range) count in
    record {
      within = subst (λ n. n ≤ length j.entries) all (subst (λ n. to ≤ n) count within);
      drawn = drawn ∙ ap (drawn_text r.drawing from to) same ∙ ap (λ n. drawn_text r.drawing n to j) is_from ∙ ap (λ n. drawn_text r.drawing (from_of r.range) n j) all;
      done = refl;
    }

pub comes_wider : (P Q : List ℕ → Status → Type 0) → ((text : List ℕ) (s : Status) → P text s → Q text s) → (result : Result Work Refusal) → ComesTo P result → ComesTo Q result
comes_wider P Q wider (Ok w) comes = λ text has. wider text (ended_of w) (comes text has)
comes_wider P Q wider (Err e) comes = λ told. wider (refusal_text e) (refusal_status e) (comes told)

-- what the bytes of the file come to, the name does
pub named_by : (files : Option Files) (name : List ℕ) (most : ℕ) (long : Refusal) (IsOf : List ℕ → List ℕ → Status → Type 0) (bytes : List ℕ)
    (result : Result Work Refusal) → IfSome files (λ at. at name ≡ Some bytes) → length bytes ≤ most → ComesTo (IsOf bytes) result
    → IfSome files (λ at. ComesTo (IsOfNamed at name most long IsOf) result)
named_by None name most long IsOf bytes result held short comes = tt
named_by (Some at) name most long IsOf bytes result held short comes =
    comes_wider (IsOf bytes) (IsOfNamed at name most long IsOf) (λ text ended is. (bytes, held, inr (short, is))) result comes

-- what is told of something stands for what it comes to
pub of_something : {X : Type 0} (files : Option Files) (outcome : Files → Result X Refusal) (Told : Files → X → List ℕ → Status → Type 0) (x : X)
    (result : Result Work Refusal) → IfSome files (λ at. outcome at ≡ Ok x) → IfSome files (λ at. ComesTo (Told at x) result)
    → IfSome files (λ at. ComesTo (IsOf (outcome at) (Told at)) result)
of_something None outcome Told x result is comes = tt
of_something (Some at) outcome Told x result is comes = subst (λ r. ComesTo (IsOf r (Told at)) result) (sym is) comes

pub in_any : {P : Type 0} (files : Option Files) → P → IfSome files (λ at. P)
in_any None p = tt
in_any (Some at) p = p

-- What tests report, test by test and list by list.
use Rattle.std.proofs.Common.{ℕ, ◌≡◌, ◌<◌, ◌≤◌, ◌+◌, ◌∙◌, true, false, List, [], ◌∷◌, ◌++◌, length, get_or, drop, refl, ap, sym, add-one, append_assoc, append-nil}
use Rattle.std.specs.Prelude.{option_to_list, slice_get}
use Rattle.std.proofs.lemmas.List.{drop_more}
use Rattle.std.proofs.Math.ListN.{drop_of_length-le}
use Rattle.dk_faults.specs.declared.collecting.RowFaults.{RowFaults}
use Rattle.dk_config.specs.declared.fault.ConfigFault.{ConfigFault}
use Rattle.dk_config.specs.Tests.{Test, first_broken, each_row}
use Rattle.dk_faults.specs.Faults.{broken, answer_of, reported}

pub broken-cons : (t : Test) (ts : List Test) → broken (t ∷ ts) ≡ option_to_list (answer_of t) ++ broken ts
broken-cons (f, true) ts = refl
broken-cons (f, false) ts = refl

pub broken-append : (ts us : List Test) → broken (ts ++ us) ≡ broken ts ++ broken us
broken-append [] us = refl
broken-append ((f, true) ∷ ts) us = ap (λ fs. f ∷ fs) (broken-append ts us)
broken-append ((f, false) ∷ ts) us = broken-append ts us

pub one : (t : Test) → option_to_list (answer_of t) ++ [] ≡ broken (t ∷ [])
one (f, true) = refl
one (f, false) = refl

pub two : (t u : Test) → option_to_list (answer_of t) ++ (option_to_list (answer_of u) ++ []) ≡ broken (t ∷ u ∷ [])
two t u = ap (λ fs. option_to_list (answer_of t) ++ fs) (one u) ∙ sym (broken-cons t (u ∷ []))

pub three : (t u v : Test) → option_to_list (answer_of t) ++ (option_to_list (answer_of u) ++ option_to_list (answer_of v)) ≡ broken (t ∷ u ∷ v ∷ [])
three t u v =
    ap (λ fs. option_to_list (answer_of t) ++ (option_to_list (answer_of u) ++ fs)) (sym (append-nil (option_to_list (answer_of v))))
    ∙ ap (λ fs. option_to_list (answer_of t) ++ fs) (two u v) ∙ sym (broken-cons t (u ∷ v ∷ []))

-- the row at i, and then those after it
pub broken-row : {R : Type 0} (tests : ℕ → R → List Test) (rows : List R) (i : ℕ) (d : R) → i < length rows
    → broken (each_row tests i (drop i rows)) ≡ broken (tests i (get_or rows i d)) ++ broken (each_row tests (i + 1) (drop (i + 1) rows))
broken-row tests rows i d h = rw (drop_more rows i d h, broken-append, add-one) refl

-- lists of tests that are done one after the other
pub then_more : (a b d : List ConfigFault) (ts us : List Test) → b ≡ a ++ broken ts → d ≡ b ++ broken us → d ≡ a ++ broken (ts ++ us)
then_more a b d ts us first second =
    second ∙ ap (λ fs. fs ++ broken us) first ∙ append_assoc a (broken ts) (broken us) ∙ ap (λ fs. a ++ fs) (sym (broken-append ts us))

-- one row of the way through the rows
pub row_added : {R : Type 0} (tests : ℕ → R → List Test) (rows : List R) (i : ℕ) (row : R) (faults : RowFaults) (a b z : List ConfigFault)
    → i < length rows → row ≡ get_or rows i row → reported faults ≡ broken (tests i row) → b ≡ a ++ reported faults
    → a ++ broken (each_row tests i (drop i rows)) ≡ z → b ++ broken (each_row tests (i + 1) (drop (i + 1) rows)) ≡ z
row_added tests rows i row faults a b z inside is_row reports added before =
    let rest = broken (each_row tests (i + 1) (drop (i + 1) rows)) in
    ap (λ fs. fs ++ rest) added ∙ append_assoc a (reported faults) rest
    ∙ ap (λ fs. a ++ (fs ++ rest)) (reports ∙ ap (λ r. broken (tests i r)) is_row)
    ∙ ap (λ fs. a ++ fs) (sym (broken-row tests rows i row inside)) ∙ before

-- and its end
pub rows_added : {R : Type 0} (tests : ℕ → R → List Test) (rows : List R) (i : ℕ) (a z : List ConfigFault) → length rows ≤ i
    → a ++ broken (each_row tests i (drop i rows)) ≡ z → a ≡ z
rows_added tests rows i a z past before =
    sym (append-nil a) ∙ ap (λ xs. a ++ broken (each_row tests i xs)) (sym (drop_of_length-le rows past)) ∙ before

-- the first that fails is the first of them
pub first-broken : (ts : List Test) → slice_get (broken ts) 0 ≡ first_broken ts
first-broken [] = refl
first-broken ((f, true) ∷ ts) = refl
first-broken ((f, false) ∷ ts) = first-broken ts

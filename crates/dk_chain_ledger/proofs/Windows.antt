-- A window of a ledger, whose first tick comes first, and of a past, whose newest comes first.
use Rattle.std.proofs.Common.{ℕ, zero, suc, ◌≡◌, ◌+◌, ◌-◌, ◌<◌, ◌≤◌, inl, inr, Bool, true, false, cond, eqb, List, [], ◌∷◌, ◌++◌, length, take, drop, get_or, refl, sym, ap, ◌∙◌, subst, arith, append_assoc, length-append, Some}
use Rattle.std.specs.Prelude.{count_by, reverse, position}
use Rattle.std.specs.List.{list_any}
use Rattle.std.proofs.lemmas.Bool.{cases_Bool, cases_lt}
use Rattle.std.proofs.lemmas.Bool.Decides.{nat_tests}
use Rattle.std.proofs.lemmas.List.{length-drop, length-take-le, length-reverse, reverse-append, take-append-drop, get_or-drop, get_or-take}
use Rattle.std.proofs.lemmas.List.Quantifiers.{position-Some}
use Rattle.std.proofs.Math.Seq.{take-append_seam, drop-append_seam, drop-nil}
use Rattle.dk_trace.specs.declared.Entry.{Entry}
use Rattle.dk_trace.proofs.Windows.{count_by-cons}
use Rattle.dk_chain_ledger.specs.Jobs.{first_in, last_in}

pub drop-drop : (a b : ℕ) (es : List Entry) → drop a (drop b es) ≡ drop (b + a) es
drop-drop a zero es = ap (λ k. drop k es) (omega arith)
drop-drop a (suc b) [] = drop-nil a ∙ sym (drop-nil (suc b + a))
drop-drop a (suc b) (e ∷ es) = let step : suc (b + a) ≡ suc b + a = omega arith in drop-drop a b es ∙ ap (λ k. drop k (e ∷ es)) step

-- the window of the ledger is that of the past, turned round
pub window-turned : (past : List Entry) (s P : ℕ) → s + P ≤ length past
    → take P (drop s (reverse past)) ≡ reverse (take P (drop (length past - (s + P)) past))
window-turned past s P le =
    let a = length past - (s + P) in
    let A = take a past in
    let D = drop a past in
    let B = take P D in
    let C = drop P D in
    let size : length D ≡ s + P = length-drop a past ∙ omega arith in
    let whole : past ≡ A ++ (B ++ C) = sym (ap (λ xs. A ++ xs) (take-append-drop P D) ∙ take-append-drop a past) in
    let turned : reverse past ≡ reverse C ++ (reverse B ++ reverse A) =
    ap reverse whole ∙ reverse-append A (B ++ C) ∙ ap (λ xs. xs ++ reverse A) (reverse-append B C) ∙ append_assoc (reverse C) (reverse B) (reverse A) in
    let size_c : length (reverse C) ≡ s = length-reverse C ∙ length-drop P D ∙ omega (arith, size) in
    let size_b : length (reverse B) ≡ P = length-reverse B ∙ length-take-le P D (omega (arith, size)) in
    ap (λ xs. take P (drop s xs)) turned
    ∙ ap (λ k. take P (drop k (reverse C ++ (reverse B ++ reverse A)))) (sym size_c)
    ∙ ap (take P) (drop-append_seam (reverse C) (reverse B ++ reverse A))
    ∙ ap (λ k. take k (reverse B ++ reverse A)) (sym size_b)
    ∙ take-append_seam (reverse B) (reverse A)

-- the newest of a past comes last
turned-cons : (e : Entry) (es : List Entry) → reverse (e ∷ es) ≡ reverse es ++ e ∷ []
turned-cons e es = reverse-append (e ∷ []) es

first-at : (test : Entry → Bool) (xs ys : List Entry) (e : Entry) → test e ≡ true → first_in test (xs ++ e ∷ ys) ≤ length xs + 1
first-at test [] ys e passes = rw passes (omega arith)
first-at test (x ∷ xs) ys e passes = let rest = first-at test xs ys e passes in grind (arith, nat_tests)

-- what passes in the first part is the first of all
pub first-early : (test : Entry → Bool) (b ys : List Entry) → list_any test b ≡ true → first_in test (reverse b ++ ys) ≤ length b
first-early test [] ys any = absurd (cc)
first-early test (e ∷ b) ys any =
    let shift : reverse (e ∷ b) ++ ys ≡ reverse b ++ (e ∷ ys) = ap (λ xs. xs ++ ys) (turned-cons e b) ∙ append_assoc (reverse b) (e ∷ []) ys in
    let now : first_in test (reverse (e ∷ b) ++ ys) ≡ first_in test (reverse b ++ (e ∷ ys)) = ap (first_in test) shift in
    elim (cases_Bool (test e)) [
      | inl passes ↦ let one = first-at test (reverse b) ys e passes in let size = length-reverse b in omega (arith, one, now, size)
      | inr not ↦
          let any' : list_any test b ≡ true = (let h = any in grind (arith, nat_tests)) in
          let rest = first-early test b (e ∷ ys) any' in
          omega (arith, rest, now)
    ]

last-skip : (test : Entry → Bool) (zs : List Entry) (e : Entry) → test e ≡ false → last_in test (zs ++ e ∷ []) ≡ last_in test zs
last-skip test [] e not = rw not refl
last-skip test (z ∷ zs) e not = let rest = last-skip test zs e not in rw rest refl

pub last-most : (test : Entry → Bool) (es : List Entry) → last_in test es ≤ length es
last-most test [] = omega arith
last-most test (e ∷ es) = let rest = last-most test es in grind (arith, nat_tests)

-- where nothing passes in the later part, the last is in the earlier one
pub last-early : (test : Entry → Bool) (xs b : List Entry) → count_by test b ≡ 0 → last_in test (xs ++ reverse b) ≤ length xs
last-early test xs [] none = let most = last-most test (xs ++ []) in let size = length-append xs [] in omega (arith, most, size)
last-early test xs (e ∷ b) none =
    let split = count_by-cons test e b in
    let not : test e ≡ false = (elim (cases_Bool (test e)) [
      | inl passes ↦ (let one : ◌≡◌ {A = ℕ} (cond (test e) 1 0) 1 = rw passes refl in absurd (omega (arith, split, none, one)))
      | inr not ↦ not
    ]) in
    let shift : xs ++ reverse (e ∷ b) ≡ (xs ++ reverse b) ++ e ∷ [] = ap (λ ys. xs ++ ys) (turned-cons e b) ∙ sym (append_assoc xs (reverse b) (e ∷ [])) in
    let same : last_in test (xs ++ reverse (e ∷ b)) ≡ last_in test (xs ++ reverse b) = ap (last_in test) shift ∙ last-skip test (xs ++ reverse b) e not in
    let rest = last-early test xs b (omega (arith, split, none)) in
    omega (arith, rest, same)

-- the last that passes, and the first, pass
pub last-passes : (test : Entry → Bool) (es : List Entry) (d : Entry) → 0 < last_in test es → test (get_or es (last_in test es - 1) d) ≡ true
last-passes test [] d some = absurd (omega arith)
last-passes test (e ∷ es) d some =
    elim (cases_lt 0 (last_in test es)) [
      | inl more ↦
          let rest = last-passes test es d more in
          let test_zero : eqb (last_in test es) 0 ≡ false = grind (arith, nat_tests) in
          let is : last_in test (e ∷ es) ≡ suc (last_in test es) = rw test_zero refl in
          let place : last_in test (e ∷ es) - 1 ≡ suc (last_in test es - 1) = omega (arith, is, more) in
          subst (λ k. test (get_or (e ∷ es) k d) ≡ true) (sym place) rest
      | inr none ↦
          let test_zero : eqb (last_in test es) 0 ≡ true = grind (arith, nat_tests) in
          elim (cases_Bool (test e)) [
            | inl passes ↦
                let is : last_in test (e ∷ es) ≡ 1 = rw (test_zero, passes) refl in
                let place : last_in test (e ∷ es) - 1 ≡ 0 = omega (arith, is) in
                subst (λ k. test (get_or (e ∷ es) k d) ≡ true) (sym place) passes
            | inr not ↦ let is : last_in test (e ∷ es) ≡ 0 = rw (test_zero, not) refl in absurd (omega (arith, is, some))
          ]
    ]

pub first-some : (test : Entry → Bool) (es : List Entry) → 0 < length es → 0 < first_in test es
first-some test [] some = absurd (omega arith)
first-some test (e ∷ es) some = grind (arith, nat_tests)

pub first-passes : (test : Entry → Bool) (es : List Entry) (d : Entry) → first_in test es < length es → test (get_or es (first_in test es - 1) d) ≡ true
first-passes test [] d less = absurd (omega arith)
first-passes test (e ∷ es) d less =
    elim (cases_Bool (test e)) [
      | inl passes ↦
          let is : first_in test (e ∷ es) ≡ 1 = rw passes refl in
          let place : first_in test (e ∷ es) - 1 ≡ 0 = omega (arith, is) in
          subst (λ k. test (get_or (e ∷ es) k d) ≡ true) (sym place) passes
      | inr not ↦
          let is : first_in test (e ∷ es) ≡ suc (first_in test es) = rw not refl in
          let some : 0 < first_in test es = first-some test es (omega (arith, is, less)) in
          let place : first_in test (e ∷ es) - 1 ≡ suc (first_in test es - 1) = omega (arith, is, some) in
          subst (λ k. test (get_or (e ∷ es) k d) ≡ true) (sym place) (first-passes test es d (omega (arith, is, less)))
    ]

pub first-most : (test : Entry → Bool) (es : List Entry) → first_in test es ≤ length es
first-most test [] = omega arith
first-most test (e ∷ es) = let rest = first-most test es in grind (arith, nat_tests)

pub last-some : (test : Entry → Bool) (es : List Entry) (k : ℕ) → position test es ≡ Some k → (d : Entry) → 0 < last_in test es
last-some test es k at d = let found = position-Some test es k d at in somewhere test es k d found.0 found.1
  where
    somewhere : (test : Entry → Bool) (es : List Entry) (k : ℕ) (d : Entry) → k < length es → test (get_or es k d) ≡ true → 0 < last_in test es
    somewhere test [] k d less passes = absurd (omega arith)
    somewhere test (e ∷ es) zero d less passes = let h : test e ≡ true = passes in grind (arith, nat_tests)
    somewhere test (e ∷ es) (suc k) d less passes = let rest = somewhere test es k d (omega arith) passes in grind (arith, nat_tests)

pub count-newest : (test : Entry → Bool) (j : ℕ) (es : List Entry) (d : Entry) → 0 < length es → test (get_or es 0 d) ≡ true → 0 < count_by test (take (suc j) es)
count-newest test j [] d some passes = absurd (omega arith)
count-newest test j (e ∷ es) d some passes =
    let split = count_by-cons test e (take j es) in
    let h : test e ≡ true = passes in
    let one : ◌≡◌ {A = ℕ} (cond (test e) 1 0) 1 = rw h refl in
    omega (arith, split, one)

-- entry k of a window
pub window-entry : (es : List Entry) (s P k : ℕ) (d : Entry) → k < P → get_or (take P (drop s es)) k d ≡ get_or es (s + k) d
window-entry es s P k d less = get_or-take P (drop s es) k d less ∙ get_or-drop s es k d

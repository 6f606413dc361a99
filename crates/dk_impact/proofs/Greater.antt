-- A process that is given a greater budget, by itself.
use Rattle.dk_impact.proofs.Names.{ℕ, suc, ◌≡◌, ◌+◌, ◌*◌, ◌%◌, ◌<◌, ◌≤◌, ◌∙◌, inr, true, List, ap, sym, mul-mod_left, arith, subst, take, Configuration, IsChecked, IsAccepted, period, main_level, budget, alone, entries_of, KeepsToItself, budget_period, on, on-is, SeesTheSameButTime, ReadsNoBudget, has_enough, IsSameAcross}
use Rattle.dk_impact.proofs.Spent.{start_of, start-is, start-begins}
use Rattle.dk_impact.proofs.Room.{enough-at}
use Rattle.dk_impact.proofs.Across.{any-period, plain-alone}

pub same-budgets : (c c' : Configuration) (p p' : ℕ) → budget c p ≡ budget c' p' → budget c p ≤ budget c' p'
same-budgets c c' p p' same = omega (arith, same)

pub with-more : (c c' : Configuration) (p p' : ℕ) (program : List ℕ) → IsChecked c → IsAccepted c → IsChecked c' → IsAccepted c' → KeepsToItself c p program → KeepsToItself c' p' program
    → SeesTheSameButTime c p c' p' program → ReadsNoBudget program → budget c p ≤ budget c' p' → (k : ℕ)
    → ((j : ℕ) → j < k
    → has_enough p (entries_of p (take (period c (main_level c p)) (alone c p program (j * period c (main_level c p) + period c (main_level c p))).past)) ≡ true)
    → IsSameAcross p p' (alone c p program (k * period c (main_level c p))) (alone c' p' program (k * period c' (main_level c' p')))
with-more c c' p p' program checked accepted checked' accepted' keeps keeps' sees reads more k enough =
    let P = period c (main_level c p) in
    let positive = checked.positive (main_level c p) (checked.levels p keeps.known) in
    let room = checked.budgets p keeps.known in
    let fits = budget_period c p checked accepted keeps.known in
    any-period c c' p p' program checked accepted checked' accepted' keeps keeps' sees more k
    (λ i less j within.
    let m = start_of P i in
    let place : i * P + P ≡ on P m = sum i in
    inr (
      (omega (arith, room), more),
      reads,
      enough-at c p program positive (plain-alone c p program positive keeps) room fits m (start-begins P i positive)
          (subst (λ n. has_enough p (entries_of p (take P (alone c p program n).past)) ≡ true) place (enough i less))
          j (omega (arith, within, fits)),
    ))
  where
    sum : (i : ℕ) → i * period c (main_level c p) + period c (main_level c p) ≡ on (period c (main_level c p)) (start_of (period c (main_level c p)) i)
    sum i =
        let begin = start-is (period c (main_level c p)) i in
        let far = on-is (period c (main_level c p)) (start_of (period c (main_level c p)) i) in
        omega (arith, begin, far)

pub ends-window : (j P : ℕ) → (j * P + P) % P ≡ 0
ends-window j P = ap (λ n. n % P) (sym more) ∙ mul-mod_left (suc j) P
  where
    more : suc j * P ≡ j * P + P
    more = grind arith

pub earlier : (j k : ℕ) → j < k → j < k + 1
earlier j k less = omega arith

pub no-later : (j k : ℕ) → j < suc k → j < k + 1
no-later j k less = omega arith

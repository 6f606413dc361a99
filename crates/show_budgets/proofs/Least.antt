-- The least budget for some times, by the greatest of them.
use Rattle.std.proofs.Common.{ℕ, zero, suc, ◌≡◌, ◌∙◌, ◌+◌, ◌*◌, ◌≤◌, ◌==◌, inl, inr, List, [], ◌∷◌, length, refl, ap, sym, subst, arith}
use Rattle.std.specs.Prelude.{max, map, nat_le, slice_get, Some, None}
use Rattle.std.specs.List.{AllByRecursion}
use Rattle.std.specs.Option.{option_map_or}
use Rattle.std.proofs.Math.Nat.{mul-le-mul_right}
use Rattle.std.proofs.lemmas.Bool.{cases_Bool}
use Rattle.std.proofs.lemmas.Bool.Decides.{nat_tests}
use Rattle.dk_config.specs.Configuration.{Configuration}
use Rattle.dk_config.specs.declared.rows.ProcessRow.{ProcessRow}
use Rattle.dk_config.specs.Sums.{greatest}
use Rattle.dk_config.specs.Windows.{budget}
use Rattle.dk_plan.specs.Budget.{rows_with_budget, with_budget}
use Rattle.dk_profile.specs.declared.TheConstants.{MAX_WORK}
use Rattle.dk_times.specs.Laws.{AreTimes, IsTime}
use Rattle.dk_replay_run.specs.Jobs.{FitWindows}
use Rattle.show_budgets.specs.Least.{IsLeastBudget, LeastIsLeast, budget_of, longer, measure_of, second, times_for}
use Rattle.show_budgets.specs.declared.measure.Measure.{Measure}

pub greatest_within : (call : ℕ) (ts : List ℕ) → AllByRecursion (IsTime call) ts → greatest ts ≤ MAX_WORK
greatest_within call [] all = omega arith
greatest_within call (t ∷ ts) all =
    let here = all.0.1 in
    let rest = greatest_within call ts all.1 in
    grind (arith, nat_tests, here, rest)

pub second_within : (call : ℕ) (ts : List ℕ) → AllByRecursion (IsTime call) ts → second ts ≤ MAX_WORK
second_within call [] all = omega arith
second_within call (t ∷ ts) all =
    let here = all.0.1 in
    let rest = second_within call ts all.1 in
    grind (arith, nat_tests, here, rest)

-- where the budget has room for the greatest of them, it has for each
pub fits : (d : Configuration) (p : ℕ) (ts : List ℕ) → AllByRecursion (λ t. d.costs.call ≤ t) ts
    → greatest ts + 2 * d.costs.switch ≤ budget d p → FitWindows d p ts
fits d p [] all le = tt
fits d p (t ∷ ts) all le = (all.0, grind (arith, nat_tests, le), fits d p ts all.1 (grind (arith, nat_tests, le)))

room : (d : Configuration) (p : ℕ) (ts : List ℕ) → 1 ≤ length ts → FitWindows d p ts → greatest ts + 2 * d.costs.switch ≤ budget d p
room d p [] some fit = absurd (omega (arith, some))
room d p (t ∷ []) some fit = let here = fit.1 in grind (arith, nat_tests, here)
room d p (t ∷ u ∷ ts) some fit =
    let here = fit.1 in
    let rest = room d p (u ∷ ts) (omega arith) fit.2 in
    grind (arith, nat_tests, here, rest)

own_budget : (rows : List ProcessRow) (p m : ℕ) (row : ProcessRow) → slice_get rows p ≡ Some row
    → option_map_or (λ (r : ProcessRow). r.budget) (slice_get (rows_with_budget rows p m) p) 0 ≡ m
own_budget [] p m row at = absurd (cc)
own_budget (r ∷ rows) zero m row at = refl
own_budget (r ∷ rows) (suc p) m row at = own_budget rows p m row at

-- a longer job is longer with the reserve too
pub longer_mono : (q a b : ℕ) → a ≤ b → longer q a ≤ longer q b
longer_mono q a b le =
    let more : a * q ≤ b * q = mul-le-mul_right q le in
    omega (arith, more, le)

longer_max : (q a b : ℕ) → max (longer q a) (longer q b) ≡ longer q (max a b)
longer_max q a b =
    elim (cases_Bool (nat_le a b)) [
      | inl is ↦ let le : a ≤ b = grind (arith, nat_tests, is) in
          let more = longer_mono q a b le in
          let is : max a b ≡ b = grind (arith, nat_tests, le) in
          let too : max (longer q a) (longer q b) ≡ longer q b = grind (arith, nat_tests, more) in
          too ∙ ap (longer q) (sym is)
      | inr isnt ↦ let le : b ≤ a = grind (arith, nat_tests, isnt) in
          let more = longer_mono q b a le in
          let is : max a b ≡ a = grind (arith, nat_tests, le) in
          let too : max (longer q a) (longer q b) ≡ longer q a = grind (arith, nat_tests, more) in
          too ∙ ap (longer q) (sym is)
    ]

longer_none : (q : ℕ) → longer q 0 ≡ 0
longer_none q = omega arith

greatest_longer : (q : ℕ) (ts : List ℕ) → greatest (map (longer q) ts) ≡ longer q (greatest ts)
greatest_longer q [] = sym (longer_none q)
greatest_longer q (t ∷ ts) = ap (max (longer q t)) (greatest_longer q ts) ∙ longer_max q t (greatest ts)

pub longer_low : (q call : ℕ) (ts : List ℕ) → AllByRecursion (IsTime call) ts → AllByRecursion (λ t. call ≤ t) (map (longer q) ts)
longer_low q call [] all = tt
longer_low q call (t ∷ ts) all = (let low = all.0.0 in omega (arith, low), longer_low q call ts all.1)

no_longer : (ts : List ℕ) → map (longer 0) ts ≡ ts
no_longer [] = refl
no_longer (t ∷ ts) = let same : longer 0 t ≡ t = omega arith in ap (λ n. n ∷ map (longer 0) ts) same ∙ ap (λ l. t ∷ l) (no_longer ts)

length_longer : (q : ℕ) (ts : List ℕ) → length (map (longer q) ts) ≡ length ts
length_longer q [] = refl
length_longer q (t ∷ ts) = ap suc (length_longer q ts)

-- the budget for the greatest of them is the least
pub of_times : (c : Configuration) (p q : ℕ) (row : ProcessRow) (ts : List ℕ) → slice_get c.processes p ≡ Some row → 1 ≤ length ts
    → AllByRecursion (IsTime c.costs.call) ts → IsLeastBudget c p (map (longer q) ts) (budget_of c q (greatest ts))
of_times c p q row ts at some all =
    let has : (m : ℕ) → budget (with_budget c p m) p ≡ m = λ m. own_budget c.processes p m row at in
    let long = greatest_longer q ts in
    let b = budget_of c q (greatest ts) in
    record {
      enough = fits (with_budget c p b) p (map (longer q) ts) (longer_low q c.costs.call ts all)
          (let own = has b in omega (arith, own, long));
      least = λ m fit.
          let wide = room (with_budget c p m) p (map (longer q) ts) (let same = length_longer q ts in omega (arith, same, some)) fit in
          let own = has m in
          omega (arith, own, long, wide);
    }

pub least_is_least : AreTimes → LeastIsLeast
least_is_least are c p percent table row m at asked =
    let ts = times_for c table row in
    elim (cases_Bool (length ts == 0)) [
      | inl none ↦ let no : None ≡ Some m = rw none at asked in absurd (cc)
      | inr some ↦
          let is : Some (measure_of c percent ts) ≡ Some m = rw some at asked in
          let same : measure_of c percent ts ≡ m = cc in
          let all = are c.costs.call row.name table in
          let many : 1 ≤ length ts = grind (arith, nat_tests, some) in
          let plain = of_times c p 0 row ts at many all in
          let one = subst (λ l. IsLeastBudget c p l (budget_of c 0 (greatest ts))) (no_longer ts) plain in
          subst (λ (k : Measure). IsLeastBudget c p ts k.least × IsLeastBudget c p (map (longer percent) ts) k.budget) same
          (one, of_times c p percent row ts at many all)
    ]

-- A configuration is accepted where each level fits, and then the test finds no level that fails.
use Rattle.dk_plan.proofs.Names.{◌≡◌, refl, sym, subst, ℕ, zero, suc, ◌+◌, ◌<◌, ◌≤◌, min, ◌⊎◌, inl, inr, length, arith, Option, Some, None, IfNone, if◌then◌else◌, nat_lt, ◌↔◌, option_or, MAX_SPAN, Configuration, numbers, first_of, period, level_demand, level_blocking, fails_at, first_failing, IsAccepted, first_of-none, passes, answer_of, rows_of, IsCertified, with_budget, LevelFits, nat_tests}
use Rattle.dk_certify.specs.declared.certifying.Verdict.TheVariants as Verdict

pub if_none : {T : Type 0} (o : Option T) (P : Type 0) → P → IfNone o P
if_none None P h = h
if_none (Some x) P h = tt

fits : (j window needs : ℕ) → (if nat_lt window needs then Some j else None) ≡ None → needs ≤ window
fits j window needs h = grind (arith, nat_tests)

both_none : (a b : Option ℕ) → option_or a b ≡ None → (a ≡ None) × (b ≡ None)
both_none a b h = grind (arith, nat_tests)

each_none : (f : ℕ → Option ℕ) (low n : ℕ) → first_of f (numbers low n) ≡ None → (j : ℕ) → low ≤ j → j < low + n → f j ≡ None
each_none f low zero h j a b = absurd (omega arith)
each_none f low (suc n) h j a b = grind (arith, nat_tests, each_none f (suc low) n)

pub certified_from : (c : Configuration) → IsAccepted c → IsCertified c
certified_from c accepted = grind (arith, nat_tests, first_of-none, passes)

pub accepted_from : (c : Configuration) → IsCertified c → IsAccepted c
accepted_from c certified j inside =
    fits j (period c j) (level_demand c j + level_blocking c j) (each_none (fails_at c) 0 (length c.levels) (go (first_failing c) certified) j (omega arith) (omega arith))
  where
    go : (o : Option ℕ) → answer_of c o ≡ Verdict.Accepted (rows_of c) → o ≡ None
    go None h = refl
    go (Some k) h = absurd (cc)

-- the levels before this one fit with the budgets up to this one
pub record FitsSoFar (c : Configuration) (p level most : ℕ) : Type 0 where
  pub limit : (b : ℕ) → b ≤ MAX_SPAN → ((j : ℕ) → j < level → LevelFits c p j b) ↔ (b ≤ most)
  pub few : most ≤ MAX_SPAN

pub before_or_here : (j level : ℕ) → j < level + 1 → (j < level) ⊎ (j ≡ level)
before_or_here j level h = grind arith

module _ (c : Configuration) (p level most : ℕ) (so_far : FitsSoFar c p level most) where
  pub fits_step : (own most_now : ℕ) → ((b : ℕ) → b ≤ MAX_SPAN → LevelFits c p level b ↔ (b ≤ own)) → most_now ≡ min most own → FitsSoFar c p (level + 1) most_now
  fits_step own most_now limit is = record {
    limit = λ b few. (
      λ each. (let earlier = (so_far.limit b few).0 (λ j below. each j (omega arith)) in let here = (limit b few).0 (each level (omega arith)) in omega (arith, is, earlier, here)),
      λ within. (let earlier = (so_far.limit b few).1 (omega (arith, is, within)) in let here = (limit b few).1 (omega (arith, is, within)) in
          λ j below. elim (before_or_here j level below) [ inl before ↦ earlier j before | inr same ↦ subst (λ k. LevelFits c p k b) (sym same) here ]),
    );
    few = let few = so_far.few in omega (arith, is, few);
  }

  pub all_fit : level ≡ length c.levels → (b : ℕ) → b ≤ MAX_SPAN → IsAccepted (with_budget c p b) ↔ (b ≤ most)
  all_fit all b few = (
    λ accepted. (so_far.limit b few).0 (λ j below. accepted j (subst (λ n. j < n) all below)),
    λ within. λ j below. (so_far.limit b few).1 within j (subst (λ n. j < n) (sym all) below),
  )

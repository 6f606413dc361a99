-- A number with which each level fits, level by level.
use Rattle.dk_margins.proofs.Names.{ℕ, ◌≡◌, ◌+◌, ◌≤◌, inl, inr, min, subst, sym, arith, before_or_here, MAX_SPAN, HoldsUpTo, AtEach}

-- the levels before this one fit with the numbers up to this one
pub record FitsSoFar (Fits : ℕ → ℕ → Type 0) (level most : ℕ) : Type 0 where
  pub limit : HoldsUpTo most (AtEach level Fits)
  pub few : most ≤ MAX_SPAN

pub fits_step : (Fits : ℕ → ℕ → Type 0) (level most own most_now : ℕ) → FitsSoFar Fits level most → HoldsUpTo own (Fits level) → most_now ≡ min most own
    → FitsSoFar Fits (level + 1) most_now
fits_step Fits level most own most_now so_far limit is =
    record {
      limit = λ n few. (
        λ each. (let earlier = (so_far.limit n few).0 (λ j below. each j (omega arith)) in let here = (limit n few).0 (each level (omega arith)) in omega (arith, is, earlier, here)),
        λ within. (let earlier = (so_far.limit n few).1 (omega (arith, is, within)) in let here = (limit n few).1 (omega (arith, is, within)) in
            λ j below. elim (before_or_here j level below) [ inl before ↦ earlier j before | inr same ↦ subst (λ k. Fits k n) (sym same) here ]),
      );
      few = let few = so_far.few in omega (arith, is, few);
    }

pub all_fit : (Fits : ℕ → ℕ → Type 0) (level most count : ℕ) → FitsSoFar Fits level most → level ≡ count → HoldsUpTo most (AtEach count Fits)
all_fit Fits level most count so_far all = subst (λ n. HoldsUpTo most (AtEach n Fits)) all so_far.limit

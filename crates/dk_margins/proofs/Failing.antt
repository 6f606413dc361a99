-- The first level that fails, where the levels before it are known to fit.
use Rattle.dk_margins.proofs.Names.{ℕ, ◌≡◌, ◌+◌, ◌<◌, ◌≤◌, inl, inr, subst, sym, length, arith, Some, None, before_or_here, Configuration, period, level_demand, level_blocking, first_failing, accepted, fails_first}

pub one_fits : (P : ℕ → Type 0) (level : ℕ) → ((j : ℕ) → j < level → P j) → P level → (j : ℕ) → j < level + 1 → P j
one_fits P level before here j below = elim (before_or_here j level below) [ inl earlier ↦ before j earlier | inr same ↦ subst P (sym same) here ]

too_much : (needs window : ℕ) → (needs ≤ window → ⊥) → window < needs
too_much needs window h = grind arith

module _ (c : Configuration) (level : ℕ) (fit : (j : ℕ) → j < level → level_demand c j + level_blocking c j ≤ period c j) where
  pub fails_here : level < length c.levels → (level_demand c level + level_blocking c level ≤ period c level → ⊥) → Some level ≡ first_failing c
  fails_here inside h = sym (fails_first c level fit inside (too_much (level_demand c level + level_blocking c level) (period c level) h))

  pub none_fails : level ≡ length c.levels → None ≡ first_failing c
  none_fails all = sym (accepted c level fit all)

-- The first level that has used its spare up.
use Rattle.dk_slack.proofs.Names.{◌≡◌, ℕ, suc, ◌+◌, ◌-◌, ◌<◌, ◌≤◌, Bool, cond, ltb, List, length, refl, arith, add-one, slice_index, option_map_or, le-ltb, lt-ltb, ltb-true, ltb-false, numbers, first_of, Source, overdrawn_at, nat_tests}

-- where slack comes from by the levels from one on
abbrev pub source_from : List ℕ → List ℕ → ℕ → Source
source_from unclaimed spares level =
    option_map_or Source.Reclaimed (first_of (overdrawn_at unclaimed spares) (numbers level (length spares - level))) Source.Timeline

left : (n k : ℕ) → k < n → n - k ≡ suc (n - suc k)
left n k h = omega arith

module _ (unclaimed spares : List ℕ) (level : ℕ) where
  pub source-hit : level < length spares → slice_index spares level ≤ slice_index unclaimed level → source_from unclaimed spares level ≡ Source.Reclaimed level
  source-hit h over = rw (left (length spares) level h, le-ltb (slice_index unclaimed level) (slice_index spares level) over) refl

  pub source-miss : level < length spares → slice_index unclaimed level < slice_index spares level → source_from unclaimed spares level ≡ source_from unclaimed spares (level + 1)
  source-miss h under = rw (add-one, left (length spares) level h, lt-ltb (slice_index unclaimed level) (slice_index spares level) under) refl

  -- the level where it has used its spare up, else where the slower levels have it from
  pub source-here : level < length spares
      → cond (ltb (slice_index unclaimed level) (slice_index spares level)) (source_from unclaimed spares (level + 1)) (Source.Reclaimed level)
      ≡ source_from unclaimed spares level
  source-here h = grind (arith, nat_tests, source-miss, ltb-true, source-hit, ltb-false)

  pub source-end : length spares ≤ level → source_from unclaimed spares level ≡ Source.Timeline
  source-end past = let none : length spares - level ≡ 0 = omega arith in rw none refl

-- the level of that number, where there are so many
abbrev pub source_named : ℕ → ℕ → Source
source_named level levels = cond (ltb level levels) (Source.Reclaimed level) Source.Timeline

pub named-none : (levels : ℕ) → source_named levels levels ≡ Source.Timeline
named-none levels = rw (le-ltb levels levels (omega arith)) refl

pub named-first : (fits : Bool) (slower level levels : ℕ) → level < levels
    → source_named (cond fits slower level) levels ≡ cond fits (source_named slower levels) (Source.Reclaimed level)
named-first fits slower level levels h = grind (arith, nat_tests, lt-ltb)

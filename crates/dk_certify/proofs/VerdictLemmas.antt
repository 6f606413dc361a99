-- The first level that fails, from what is known of the levels before it.
use Rattle.std.proofs.Common.{◌≡◌, ◌∙◌, ◌<◌, ◌≤◌, ◌+◌, ℕ, zero, suc, List, [], ◌∷◌, ◌⊎◌, inl, inr, length, arith, ap, sym}
use Rattle.std.specs.Prelude.{Option, Some, None, nat_lt, if◌then◌else◌, map, ◌-◌}
use Rattle.std.proofs.Common.{below_more, ◌++◌, add-one, zero-add, length-append}
use Rattle.std.specs.Option.{option_or}
use Rattle.std.proofs.lemmas.Bool.{le-ltb, lt-ltb}
use Rattle.dk_config.specs.Configuration.{Configuration}
use Rattle.dk_config.specs.Sums.{numbers, below, first_of}
use Rattle.dk_certify.specs.declared.table.TableRow.{TableRow}
use Rattle.dk_certify.specs.declared.certifying.Verdict.TheVariants as Verdict
use Rattle.dk_certify.specs.Verdicts.{row_of, answer_of, verdict_of}
use Rattle.dk_config.proofs.Counting.{map-numbers-more, first_of-none}
use Rattle.dk_config.specs.Windows.{period}
use Rattle.dk_config.specs.Certification.{level_demand, level_blocking, fails_at, first_failing}

pub passes : (j window needs : ℕ) → needs ≤ window → (if nat_lt window needs then Some j else None) ≡ None
passes j window needs h = ap (λ b. if b then Some j else None) (le-ltb window needs h)

fails : (j window needs : ℕ) → window < needs → (if nat_lt window needs then Some j else None) ≡ Some j
fails j window needs h = ap (λ b. if b then Some j else None) (lt-ltb window needs h)

here_or_later : (low k : ℕ) → low ≤ k → (low ≡ k) ⊎ (low < k)
here_or_later low k h = grind arith

one_of : (f : ℕ → Option ℕ) (low n k : ℕ) → low ≤ k → k < low + n → ((j : ℕ) → j < k → f j ≡ None) → f k ≡ Some k → first_of f (numbers low n) ≡ Some k
one_of f low zero k a b before there = absurd (omega arith)
one_of f low (suc n) k a b before there =
    elim (here_or_later low k a) [
      | inl here ↦ ap (λ o. let later = first_of f (numbers (suc low) n) in option_or o later) (ap f here ∙ there)
      | inr later ↦ ap (λ o. let later = first_of f (numbers (suc low) n) in option_or o later) (before low later) ∙ one_of f (suc low) n k (omega arith) (omega arith) before there
    ]

module _ (c : Configuration) (k : ℕ) (fit : (j : ℕ) → j < k → level_demand c j + level_blocking c j ≤ period c j) where
  passes_before : (j : ℕ) → j < k → fails_at c j ≡ None
  passes_before j h = passes j (period c j) (level_demand c j + level_blocking c j) (fit j h)

  pub accepted : k ≡ length c.levels → first_failing c ≡ None
  accepted all = first_of-none (fails_at c) 0 (length c.levels) (λ j h. passes_before j (omega arith))

  pub fails_first : k < length c.levels → period c k < level_demand c k + level_blocking c k → first_failing c ≡ Some k
  fails_first inside short = one_of (fails_at c) 0 (length c.levels) k (omega arith) (omega arith) passes_before (fails k (period c k) (level_demand c k + level_blocking c k) short)

sub_in_turn : (p d b : ℕ) → p - (d + b) ≡ p - d - b
sub_in_turn p d b = omega arith

carry : (d b w d' b' w' : ℕ) → d ≡ d' → b ≡ b' → w ≡ w' → d + b ≤ w → d' + b' ≤ w'
carry d b w d' b' w' e f g h = omega arith

exceed : (d b w d' b' w' : ℕ) → d ≡ d' → b ≡ b' → w ≡ w' → w < d + b → w' < d' + b'
exceed d b w d' b' w' e f g h = omega arith

-- the rows of the levels before this one, none of which fails
pub record TableSoFar (c : Configuration) (level : ℕ) (table : List TableRow) : Type 0 where
  pub rows : table ≡ map (row_of c) (below level)
  pub count : length table ≡ level
  pub fit : (j : ℕ) → j < level → level_demand c j + level_blocking c j ≤ period c j

module _ (c : Configuration) (level : ℕ) (table : List TableRow) (so_far : TableSoFar c level table) (window demand blocking : ℕ)
    (is_window : window ≡ period c level) (is_demand : demand ≡ level_demand c level) (is_blocking : blocking ≡ level_blocking c level) where
  abbrev found : TableRow
  found = record { period = window; demand = demand; blocking = blocking; spare = window - (demand + blocking) }

  is_row : found ≡ row_of c level
  is_row = ap (λ w. record { period = w; demand = demand; blocking = blocking; spare = w - (demand + blocking) }) is_window
      ∙ ap (λ d. record { period = period c level; demand = d; blocking = blocking; spare = period c level - (d + blocking) }) is_demand
      ∙ ap (λ b. record { period = period c level; demand = level_demand c level; blocking = b; spare = period c level - (level_demand c level + b) }) is_blocking
      ∙ ap (λ s. record { period = period c level; demand = level_demand c level; blocking = level_blocking c level; spare = s }) (sub_in_turn (period c level) (level_demand c level) (level_blocking c level))

  fits_here : demand + blocking ≤ window → level_demand c level + level_blocking c level ≤ period c level
  fits_here fits = carry demand blocking window (level_demand c level) (level_blocking c level) (period c level) is_demand is_blocking is_window fits

  pub table_step : demand + blocking ≤ window → TableSoFar c (level + 1) (table ++ found ∷ [])
  table_step fits = record {
    rows = ap (λ rows. rows ++ found ∷ []) so_far.rows ∙ ap (λ row. map (row_of c) (below level) ++ row ∷ []) (is_row ∙ ap (row_of c) (sym (zero-add level)))
        ∙ sym (map-numbers-more (row_of c) 0 level) ∙ ap (λ n. map (row_of c) (below n)) (sym (add-one level));
    count = length-append table (found ∷ []) ∙ ap (λ n. n + 1) so_far.count;
    fit = below_more (λ j. level_demand c j + level_blocking c j ≤ period c j) level so_far.fit (fits_here fits);
  }

  pub failed_table : level < length c.levels → window < demand + blocking → Verdict.Fails level (demand + blocking) window ≡ verdict_of c
  failed_table inside short =
      let short_here = exceed demand blocking window (level_demand c level) (level_blocking c level) (period c level) is_demand is_blocking is_window short in
      ap (λ n. Verdict.Fails level (n + blocking) window) is_demand ∙ ap (λ n. Verdict.Fails level (level_demand c level + n) window) is_blocking
      ∙ ap (λ w. Verdict.Fails level (level_demand c level + level_blocking c level) w) is_window ∙ sym (ap (answer_of c) (fails_first c level so_far.fit inside short_here))

module _ (c : Configuration) (level : ℕ) (table : List TableRow) (so_far : TableSoFar c level table) where
  pub whole_table : level ≡ length c.levels → Verdict.Accepted table ≡ verdict_of c
  whole_table all = ap Verdict.Accepted (so_far.rows ∙ ap (λ n. map (row_of c) (below n)) all) ∙ sym (ap (answer_of c) (accepted c level so_far.fit all))

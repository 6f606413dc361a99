-- What the cells say of a past whose recount they are.
use Rattle.dk_demand.proofs.Names.{◌≡◌, ◌<◌, ◌≤◌, ◌+◌, ◌-◌, ◌∙◌, ℕ, zero, suc, Bool, true, not, List, length, get_or, map, refl, ap, sym, arith, is_none, slice_index, ◌==◌, nat_lt, nat_le, if◌then◌else◌, find, list_all, nat_tests, length-map, LevelRow, Configuration, numbers, below, window_end, Clock, clock_at, end_at, Entry, own_demand, remaining_demand, fits, fits_at, is_tight_at, blocking, Cells, is_unfit, first_unfit, by_level, IsRecount, NoneIsLate, each_level}
use Rattle.std.specs.Prelude.{◌&&◌}
use Rattle.dk_demand.proofs.Changing.{is-by_level}

get_or-numbers : (f : ℕ → ℕ) (low n j : ℕ) → j < n → get_or (map f (numbers low n)) j 0 ≡ f (low + j)
get_or-numbers f low zero j inside = absurd (omega arith)
get_or-numbers f low (suc n) zero inside = ap f (omega arith)
get_or-numbers f low (suc n) (suc j) inside = get_or-numbers f (suc low) n j (omega arith) ∙ ap f (omega arith)

-- a list by levels, read at one level
at-level : (c : Configuration) (f : ℕ → ℕ) (ns : List ℕ) (j : ℕ) → ns ≡ each_level c f → j < length c.levels → slice_index ns j ≡ f j
at-level c f ns j is inside = ap (λ ms. get_or ms j 0) is ∙ get_or-numbers f 0 (length c.levels) j inside ∙ ap f (omega arith)

length-numbers : (f : ℕ → ℕ) (low n : ℕ) → length (map f (numbers low n)) ≡ n
length-numbers f low zero = refl
length-numbers f low (suc n) = ap suc (length-numbers f (suc low) n)

-- a change that is right at each level turns one list by levels into the other
pub each_level-changed : (c : Configuration) (f : ℕ → ℕ → ℕ) (old new : ℕ → ℕ) → ((j : ℕ) → j < length c.levels → f j (old j) ≡ new j)
    → by_level f (each_level c old) ≡ each_level c new
each_level-changed c f old new right =
    let levels : length (each_level c old) ≡ length c.levels = length-numbers old 0 (length c.levels) in
    sym (is-by_level f (each_level c old) (each_level c new) (length-numbers new 0 (length c.levels) ∙ sym levels)
    (λ j inside.
    let known : j < length c.levels = omega arith in
    at-level c new (each_level c new) j refl known ∙ sym (right j known) ∙ ap (f j) (sym (at-level c old (each_level c old) j refl known))))

pub own-past : (c : Configuration) (past : List Entry) (d : Cells) (j : ℕ) → IsRecount c past d → j < length c.levels → slice_index d.own j ≡ own_demand c d.windows.tick past j
own-past c past d j r inside = at-level c (own_demand c d.windows.tick past) d.own j r.own inside

pub remaining-past : (c : Configuration) (past : List Entry) (d : Cells) (j : ℕ) → IsRecount c past d → j < length c.levels → slice_index d.remaining j ≡ remaining_demand c d.windows.tick past j
remaining-past c past d j r inside = at-level c (remaining_demand c d.windows.tick past) d.remaining j r.remaining inside

pub blocking-past : (c : Configuration) (past : List Entry) (d : Cells) (j : ℕ) → IsRecount c past d → j < length c.levels → slice_index d.blocking j ≡ blocking c past j
blocking-past c past d j r inside = at-level c (blocking c past) d.blocking j r.blocking inside

-- the numbers that a level's test reads
record Reads (c : Configuration) (past : List Entry) (d : Cells) (j : ℕ) : Type 0 where
  own : slice_index d.own j ≡ own_demand c d.windows.tick past j
  remaining : slice_index d.remaining j ≡ remaining_demand c d.windows.tick past j
  blocking : slice_index d.blocking j ≡ blocking c past j
  end : end_at d.windows j ≡ window_end c j d.windows.tick

abbrev pub EndsAreTheConfigurations : Type 0
EndsAreTheConfigurations = (c : Configuration) (tick level : ℕ) → end_at (clock_at c tick) level ≡ window_end c level tick

reads : EndsAreTheConfigurations → (c : Configuration) (past : List Entry) (d : Cells) → IsRecount c past d → (j : ℕ) → j < length c.levels → Reads c past d j
reads ends c past d r j inside = record {
  own = own-past c past d j r inside;
  remaining = remaining-past c past d j r inside;
  blocking = blocking-past c past d j r inside;
  end = ap (λ (w : Clock). end_at w j) r.windows ∙ ends c d.windows.tick j;
}

levels-same : (c : Configuration) (past : List Entry) (d : Cells) → IsRecount c past d → length d.windows.periods ≡ length c.levels
levels-same c past d r = ap (λ (w : Clock). length w.periods) r.windows ∙ length-map c.levels (λ (row : LevelRow). row.period)

opposite : (own needed left : ℕ) → (if own == 0 then true else nat_le needed left) ≡ not (nat_lt 0 own && nat_lt left needed)
opposite own needed left = grind (arith, nat_tests)

fits-opposite : EndsAreTheConfigurations → (c : Configuration) (past : List Entry) (d : Cells) → IsRecount c past d → (j : ℕ) → j < length c.levels
    → fits_at c d.windows.tick past j ≡ not (is_unfit d j)
fits-opposite ends c past d r j inside = grind (arith, nat_tests, reads, opposite)

-- all pass a test exactly where none is found that fails it
all-none : (fit unfit : ℕ → Bool) (low n : ℕ) → ((j : ℕ) → low ≤ j → j < low + n → fit j ≡ not (unfit j))
    → list_all fit (numbers low n) ≡ is_none (find unfit (numbers low n))
all-none fit unfit low zero each = refl
all-none fit unfit low (suc n) each = grind (arith, nat_tests, all-none fit unfit (suc low) n)

pub fits-none : EndsAreTheConfigurations → (c : Configuration) (past : List Entry) (d : Cells) → IsRecount c past d
    → fits c d.windows.tick past ≡ is_none (first_unfit d)
fits-none ends c past d r = grind (arith, nat_tests, all-none, fits-opposite, levels-same)

-- two tests that agree find the same
find-same : (p q : ℕ → Bool) (low n : ℕ) → ((j : ℕ) → low ≤ j → j < low + n → p j ≡ q j) → find p (numbers low n) ≡ find q (numbers low n)
find-same p q low zero each = refl
find-same p q low (suc n) each = grind (arith, nat_tests, find-same p q (suc low) n)

no-tick : (own needed left : ℕ) → (0 < own → needed ≤ left) → (nat_lt 0 own && nat_lt left (needed + 1)) ≡ (nat_lt 0 own && (needed == left))
no-tick own needed left in_time = grind (arith, nat_tests)

unfit-tight : EndsAreTheConfigurations → (c : Configuration) (past : List Entry) (d : Cells) → IsRecount c past d → NoneIsLate c d.windows.tick past
    → (j : ℕ) → j < length c.levels → is_unfit d j ≡ is_tight_at c d.windows.tick past j
unfit-tight ends c past d r in_time j inside = grind (arith, nat_tests, reads, no-tick)

pub first-tight : EndsAreTheConfigurations → (c : Configuration) (past : List Entry) (d : Cells) → IsRecount c past d → NoneIsLate c d.windows.tick past
    → first_unfit d ≡ find (is_tight_at c d.windows.tick past) (below (length c.levels))
first-tight ends c past d r in_time =
    ap (λ n. find (is_unfit d) (below n)) (levels-same c past d r)
    ∙ find-same (is_unfit d) (is_tight_at c d.windows.tick past) 0 (length c.levels) (λ j from under. unfit-tight ends c past d r in_time j (omega arith))

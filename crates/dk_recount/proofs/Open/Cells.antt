-- The levels' cells, the kernel's own parts and the unclaimed ticks at the next tick.
use Rattle.dk_recount.proofs.Names.{◌≡◌, ◌<◌, ◌≤◌, ◌+◌, ◌*◌, ◌/◌, ◌∙◌, inl, inr, ◌&&◌, Bool, true, false, cond, eqb, leb, ltb, ℕ, zero, suc, List, ◌∷◌, length, map, get_or, refl, ap, sym, subst, arith, [], slice_index, slice_set, sum_by, cases_Bool, eqb-true, leb-true, cond-true, cond-false, nat_tests, length-map-range_with_len, LevelRow, Configuration, numbers, below, sum_from, sum_up_to, period, release, window_start, Entry, Thread, family, share, Job, unclaimed, sum_by-flat, sum_by-same, window-stays, Clock, begins_at, period_at, Table, Book, future_shares, counted_lender, Cells, released_cells, opened_cells, released_own, released_remaining, AreCells, new_job, map-same, begins, starting_shares, past_to_come, begins-start, begins-faster, within-start, window-new, kernel_part, releases_of, cells_begun, cells_set, counts_begun, is_between, kernel_work, own_in, parts_begun, remaining_in, shares_to_come, sum_from-add, sum_from-same, set-level, number-at}
use Rattle.dk_recount.proofs.Open.Clocks.{period-is}
use Rattle.dk_recount.proofs.Open.Due.{Laws, IsDue}
use Rattle.dk_recount.proofs.Open.Shares.{OnlyBegin, all-shares, future-is}

-- the new at the first levels, and the old at the others
abbrev pub part : {A : Type 0} → ℕ → (ℕ → A) → (ℕ → A) → ℕ → A
part k new old j = cond (ltb j k) (new j) (old j)

part-other : {A : Type 0} (k : ℕ) (new old : ℕ → A) (j : ℕ) → eqb j k ≡ false → part k new old j ≡ part (suc k) new old j
part-other k new old j off = ap (λ on. cond on (new j) (old j)) (tests j k off)
  where
    tests : (j k : ℕ) → eqb j k ≡ false → ltb j k ≡ ltb j (suc k)
    tests j k off =
        elim (cases_Bool (ltb j k)) [
          | inl on ↦ let more : ltb j (suc k) ≡ true = grind (arith, nat_tests) in on ∙ sym more
          | inr out ↦ let more : ltb j (suc k) ≡ false = grind (arith, nat_tests) in out ∙ sym more
        ]

part-new : {A : Type 0} (k : ℕ) (new old : ℕ → A) → part (suc k) new old k ≡ new k
part-new k new old = let on : ltb k (suc k) ≡ true = grind (arith, nat_tests) in cond-true (ltb k (suc k)) (new k) (old k) on

part-old : {A : Type 0} (k : ℕ) (new old : ℕ → A) → part k new old k ≡ old k
part-old k new old = let off : ltb k k ≡ false = grind (arith, nat_tests) in cond-false (ltb k k) (new k) (old k) off

part-none : {A : Type 0} (new old : ℕ → A) (j : ℕ) → part 0 new old j ≡ old j
part-none new old j = let off : ltb j 0 ≡ false = grind (arith, nat_tests) in cond-false (ltb j 0) (new j) (old j) off

part-all : {A : Type 0} (n : ℕ) (new old : ℕ → A) (j : ℕ) → j < n → part n new old j ≡ new j
part-all n new old j h = let on : ltb j n ≡ true = grind (arith, nat_tests) in cond-true (ltb j n) (new j) (old j) on

-- where the level's value stays
part-same : {A : Type 0} (k : ℕ) (new old : ℕ → A) (j : ℕ) → new k ≡ old k → part k new old j ≡ part (suc k) new old j
part-same k new old j same = grind (arith, nat_tests, part-old, part-new, part-other)

-- each level of which a window begins is set, one after the other
sets-from : {A : Type 0} (w : Clock) (v new old : ℕ → A) (run : List ℕ → List A → List A) (L : ℕ)
    → ((xs : List A) → run [] xs ≡ xs) → ((k : ℕ) (ks : List ℕ) (xs : List A) → run (k ∷ ks) xs ≡ run ks (cond (begins_at w k) (slice_set xs k (v k)) xs))
    → ((k : ℕ) → k < L → begins_at w k ≡ true → v k ≡ new k) → ((k : ℕ) → k < L → begins_at w k ≡ false → new k ≡ old k)
    → (k n : ℕ) (xs : List A) → k + n ≤ L → xs ≡ map (part k new old) (below L) → run (numbers k n) xs ≡ map (part (k + n) new old) (below L)
sets-from w v new old run L none one sets rests k zero xs within before = none xs ∙ before ∙ ap (λ m. map (part m new old) (below L)) (omega arith)
sets-from w v new old run L none one sets rests k (suc n) xs within before =
    one k (numbers (suc k) n) xs
    ∙ sets-from w v new old run L none one sets rests (suc k) n (cond (begins_at w k) (slice_set xs k (v k)) xs) (omega arith) (go (begins_at w k) refl)
    ∙ ap (λ m. map (part m new old) (below L)) (omega arith)
  where
    go : (on : Bool) → begins_at w k ≡ on → cond on (slice_set xs k (v k)) xs ≡ map (part (suc k) new old) (below L)
    go true on =
        ap (λ ps. slice_set ps k (v k)) before
        ∙ set-level (part k new old) (part (suc k) new old) L k (v k) (omega arith) (sets k (omega arith) on ∙ sym (part-new k new old)) (λ j off. part-other k new old j off)
    go false off = before ∙ map-same _ _ 0 L (λ j h. part-same k new old j (rests k (omega arith) off))

sets-all : {A : Type 0} (w : Clock) (v new old : ℕ → A) (run : List ℕ → List A → List A) (L : ℕ)
    → ((xs : List A) → run [] xs ≡ xs) → ((k : ℕ) (ks : List ℕ) (xs : List A) → run (k ∷ ks) xs ≡ run ks (cond (begins_at w k) (slice_set xs k (v k)) xs))
    → ((k : ℕ) → k < L → begins_at w k ≡ true → v k ≡ new k) → ((k : ℕ) → k < L → begins_at w k ≡ false → new k ≡ old k)
    → (xs : List A) → xs ≡ map old (below L) → run (below L) xs ≡ map new (below L)
sets-all w v new old run L none one sets rests xs before =
    sets-from w v new old run L none one sets rests 0 L xs (omega arith) (before ∙ map-same _ _ 0 L (λ j h. sym (part-none new old j)))
    ∙ map-same _ _ 0 L (λ j h. part-all (0 + L) new old j (omega arith))

between-one : (k i : ℕ) → is_between k k i ≡ eqb i k
between-one k i = grind (arith, nat_tests)

between-up : (k i : ℕ) → is_between 0 k i ≡ leb i k
between-up k i = let on : leb 0 i ≡ true = grind (arith, nat_tests) in ap (λ p. p && leb i k) on

module _ (laws : Laws) (c : Configuration) (e : Entry) (past : List Entry) (t : Table) (b : Book) (w : Clock) (is : IsDue c (e ∷ past) t b w) where
  abbrev all : List Entry
  all = e ∷ past

  abbrev now : ℕ
  now = length all

  abbrev was : ℕ
  was = length past

  -- the clock tells where windows begin
  pub begins-is : (k : ℕ) → begins_at w k ≡ begins c k now
  begins-is k = ap (λ z. begins_at z k) is.windows ∙ ap (λ s. eqb s now) (laws.starts c now k)

  pub stays : (k : ℕ) → k < length c.levels → begins c k now ≡ false → window_start c k now ≡ window_start c k was
  stays k known off = within-start c k was (is.checked.positive k known) off

  only-up : (k : ℕ) → k < length c.levels → begins c k now ≡ true → OnlyBegin laws c all t b w is (is_between 0 k)
  only-up k known on i less test =
      let le : leb i k ≡ true = sym (between-up k i) ∙ test in
      let low : i ≤ k = leb-true i k le in
      begins-faster c i k now (is.checked.divides i k low known) on

  only-one : (k : ℕ) → begins c k now ≡ true → OnlyBegin laws c all t b w is (is_between k k)
  only-one k on i less test =
      let one : eqb i k ≡ true = sym (between-one k i) ∙ test in
      let same : k ≡ i = sym (eqb-true i k one) in
      subst (λ j. begins c j now ≡ true) same on

  abbrev R : List ℕ
  R = releases_of c

  release-is : (k : ℕ) → get_or R k 0 ≡ release c k
  release-is k = number-at (λ (row : LevelRow). row.release) c.levels k

  own-new : (k : ℕ) → begins c k now ≡ true → own_in R t b w k ≡ released_own c all k
  own-new k on =
      let sums = all-shares laws c all t b w is (is_between k k) (only-one k on) in
      let first = release-is k in
      let tests : sum_from 0 (length c.processes) (λ p. sum_by (λ (x : Thread). cond (is_between k k x.level) (share c all x now) 0) (family c p all))
      ≡ sum_from 0 (length c.processes) (λ p. sum_by (λ (x : Thread). cond (eqb x.level k) (share c all x now) 0) (family c p all)) = grind (arith, nat_tests, sum_from-same, sum_by-same, between-one) in
      let flat = sum_by-flat (λ (x : Thread). cond (eqb x.level k) (share c all x now) 0) (λ p. family c p all) 0 (length c.processes) in
      omega (arith, sums, first, tests, flat)

  pub lenders-are : length b.lenders ≡ length c.processes
  lenders-are = ap (λ (z : Book). length z.lenders) is.loans ∙ length-map-range_with_len (counted_lender c now all) 0 (length c.processes)

  remaining-new : (k : ℕ) → k < length c.levels → begins c k now ≡ true → remaining_in R t b w k ≡ released_remaining c all k
  remaining-new k known on =
      let P = length c.processes in
      let periods : (i : ℕ) → period_at w i ≡ period c i = λ i. ap (λ z. period_at z i) is.windows ∙ period-is c now i in
      let work : kernel_work R w k ≡ sum_up_to k (λ i. release c i * (period c k / period c i)) =
      sum_from-same 0 (suc k) _ _ (λ i low h. ap (λ r. r * (period_at w k / period_at w i)) (release-is i)
      ∙ ap (λ q. release c i * (q / period_at w i)) (periods k) ∙ ap (λ q. release c i * (period c k / q)) (periods i)) in
      let sums = all-shares laws c all t b w is (is_between 0 k) (only-up k known on) in
      let tests : sum_from 0 P (λ p. sum_by (λ (x : Thread). cond (is_between 0 k x.level) (share c all x now) 0) (family c p all)) ≡ sum_from 0 P (starting_shares c all k) = grind (arith, nat_tests, sum_from-same, sum_by-same, between-up) in
      let future : shares_to_come b w k ≡ sum_from 0 P (past_to_come c now all k) =
      ap (λ n. sum_from 0 n (λ p. future_shares b w p k)) lenders-are ∙ sum_from-same 0 P _ _ (λ p low h. future-is laws c all t b w is k p (omega arith)) in
      let both = sum_from-add 0 P (starting_shares c all k) (past_to_come c now all k) in
      omega (arith, work, sums, tests, future, both)

  -- the tables release the levels as their crate tells it
  released-is : (k n : ℕ) (z : Cells) → k + n ≤ length c.levels → z.windows ≡ w → cells_begun R t b (numbers k n) z ≡ opened_cells c all (numbers k n) z
  released-is k zero z within windows = refl
  released-is k (suc n) z within windows =
      ap (cells_begun R t b (numbers (suc k) n)) (here (begins_at z.windows k) refl)
      ∙ released-is (suc k) n (cond (begins c k now) (released_cells k (released_own c all k) (released_remaining c all k) (slice_index z.blocking k) z) z)
      (omega arith) (same (begins c k now))
    where
      told : begins_at z.windows k ≡ begins c k now
      told = ap (λ v. begins_at v k) windows ∙ begins-is k

      here : (on : Bool) → begins_at z.windows k ≡ on
          → cond on (cells_set k (own_in R t b z.windows k) (remaining_in R t b z.windows k) z) z
          ≡ cond (begins c k now) (released_cells k (released_own c all k) (released_remaining c all k) (slice_index z.blocking k) z) z
      here true on =
          let begun = sym told ∙ on in
          let own = ap (λ v. own_in R t b v k) windows ∙ own-new k begun in
          let remaining = ap (λ v. remaining_in R t b v k) windows ∙ remaining-new k (omega arith) begun in
          ap (λ n. cells_set k n (remaining_in R t b z.windows k) z) own
          ∙ ap (λ n. cells_set k (released_own c all k) n z) remaining
          ∙ sym (cond-true (begins c k now) (released_cells k (released_own c all k) (released_remaining c all k) (slice_index z.blocking k) z) z begun)
      here false off = sym (cond-false (begins c k now) (released_cells k (released_own c all k) (released_remaining c all k) (slice_index z.blocking k) z) z (sym told ∙ off))

      same : (on : Bool) → (cond on (released_cells k (released_own c all k) (released_remaining c all k) (slice_index z.blocking k) z) z).windows ≡ w
      same true = windows
      same false = windows

  -- the cells at the next tick
  pub cells-are : (z : Cells) → z.windows ≡ w → AreCells c all (record z { windows = record z.windows { tick = was } })
      → AreCells c all (cells_begun R t b (below (length c.levels)) z)
  cells-are z windows before = grind (arith, nat_tests, released-is, laws.cells c e past is.checked is.accepted is.audited (record z { windows = record z.windows { tick = was } }) (before, refl))

  -- the kernel's own parts
  kernel-stays : (k : ℕ) → k < length c.levels → begins c k now ≡ false → kernel_part c now all k ≡ kernel_part c was all k
  kernel-stays k known off = grind (arith, nat_tests, window-stays, stays)

  kernel-new : (k : ℕ) → begins c k now ≡ true → new_job (get_or R k 0) ≡ kernel_part c now all k
  kernel-new k on = grind (arith, nat_tests, release-is, window-new)

  pub kernel-are : (parts : List Job) → parts ≡ map (kernel_part c was all) (below (length c.levels))
      → parts_begun R w (below (length c.levels)) parts ≡ map (kernel_part c now all) (below (length c.levels))
  kernel-are =
      sets-all w (λ k. new_job (get_or R k 0)) (kernel_part c now all) (kernel_part c was all) (parts_begun R w) (length c.levels)
      (λ xs. refl) (λ k ks xs. refl) (λ k h on. kernel-new k (sym (begins-is k) ∙ on)) (λ k h off. kernel-stays k h (sym (begins-is k) ∙ off))

  -- the unclaimed ticks
  count-stays : (k : ℕ) → k < length c.levels → begins c k now ≡ false → unclaimed c now all k ≡ unclaimed c was all k
  count-stays k known off = grind (arith, nat_tests, stays)

  pub counts-are : (ns : List ℕ) → ns ≡ map (unclaimed c was all) (below (length c.levels))
      → counts_begun w (below (length c.levels)) ns ≡ map (unclaimed c now all) (below (length c.levels))
  counts-are =
      sets-all w (λ k. 0) (unclaimed c now all) (unclaimed c was all) (counts_begun w) (length c.levels)
      (λ xs. refl) (λ k ks xs. refl) (λ k h on. sym (laws.count_begins c all k (begins-start c k now (sym (begins-is k) ∙ on))))
      (λ k h off. count-stays k h (sym (begins-is k) ∙ off))

-- Where no window begins, nobody is due to end or to start, and no loan is due to come back.
use Rattle.dk_recount.proofs.Names.{◌≡◌, ◌<◌, ◌-◌, ◌%◌, ◌∙◌, inl, inr, ◌&&◌, Bool, true, false, eqb, ℕ, List, ◌∷◌, length, map, Option, Some, None, refl, ap, sym, subst, arith, slice_get, range_with_len, option_map_or, ◌∣◌, cases_Bool, ne_eqb, length-map-range_with_len, get_or-map-range_with_len, slice_get-get_or, slice_get_within, and-false, Configuration, period, window_end, map-places-stay, Entry, Has, Thread, family, is_main, is_void, is_ended_by, end_of, standing_children, Audited, filter-has, map-has, filter-rests, filter_map-rests, map-rests, filter_map-has, Clock, clock_at, begins_at, Family, ThreadRow, kept, started, family_ended, family_started, rows_of, counted_row, end_in_row, row_at, unplaced, row-says, Loan, Lender, is_ended_at, all_given_back, with_loans, counted_lender, counted_loan, recount, Always, begins, FamiliesStand, not-now, Tables, IsClosed, due, due_threads, dvd-end, nat_tests}
use Rattle.std.proofs.Common.{not}
use Rattle.dk_budget.specs.Calls.{given_back}
use Rattle.dk_recount.proofs.Open.Clocks.{period-is}

module _ (families : Always FamiliesStand) (c : Configuration) (e : Entry) (past : List Entry) (d : Tables) (stands : IsClosed c e past d) (audited : Audited c (e ∷ past))
    (off : begins_at d.demand.windows 0 ≡ false) where
  abbrev all : List Entry
  all = e ∷ past

  abbrev was : ℕ
  was = length past

  abbrev now : ℕ
  now = length all

  windows : d.demand.windows ≡ clock_at c now
  windows = grind (arith, nat_tests)

  none : begins c 0 now ≡ false
  none = ap (λ p. eqb (now - now % p) now) (sym (period-is c now 0)) ∙ ap (λ (v : Clock). begins_at v 0) (sym windows) ∙ off

  -- no window end, and no start that a window begins with, is the present tick
  never : (k s : ℕ) → k < length c.levels → period c k ∣ s → eqb s now ≡ false
  never k s known whole = not-now c k now s (stands.ruled.checked.divides 0 k (omega arith) known) none whole

  stand : FamiliesStand c all
  stand = families c all stands.ruled.checked stands.ruled.accepted audited

  ends-later : (p : ℕ) (x : Thread) → p < length c.processes → Has (family c p all) x → is_main x ≡ false → option_map_or (λ tick. eqb tick now) (end_of c x) false ≡ false
  ends-later p x process among child =
      let f = stand p process in
      elim (subst (λ xs. Has xs x) f.rows among) [
        | inl is ↦ grind (arith, nat_tests)
        | inr y ↦ go x.stop refl (f.each x y).known
      ]
    where
      go : (o : Option ℕ) → x.stop ≡ o → x.level < length c.levels → option_map_or (λ tick. eqb tick now) (end_of c x) false ≡ false
      go None at known = rw at refl
      go (Some t) at known = rw at (never x.level (window_end c x.level t) known (dvd-end c x.level t))

  starts-apart : (p : ℕ) (x : Thread) → p < length c.processes → Has (family c p all) x → eqb x.start now ≡ false
  starts-apart p x process among =
      let f = stand p process in
      elim (subst (λ xs. Has xs x) f.rows among) [
        | inl is ↦ grind (arith, nat_tests, ne_eqb)
        | inr y ↦ let child = f.each x y in never x.level x.start child.known child.aligned
      ]

  ends-apart : (p : ℕ) (x : Thread) → p < length c.processes → Has (family c p all) x → option_map_or (λ tick. eqb tick now) (end_in_row c x) false ≡ false
  ends-apart p x process among = grind (arith, nat_tests, ends-later)

  -- whose row it is
  owner : (p : ℕ) (r : ThreadRow) → p < length c.processes → Has (rows_of d.threads p) r → (x : Thread) × Has (family c p all) x × (counted_row c was x ≡ unplaced r)
  owner p r process h =
      let has = subst (λ rows. Has rows (unplaced r)) (stands.recount.rows.rows p process) (map-has unplaced (rows_of d.threads p) r h) in
      let y = filter_map-has (row_at c was) (family c p all) (unplaced r) has in
      let at = row-says c was r y.0 y.2 in
      (y.0, y.1, at.1)

  row-lasts : (p : ℕ) (r : ThreadRow) → p < length c.processes → Has (rows_of d.threads p) r → kept now r ≡ Some r
  row-lasts p r process h = grind (arith, nat_tests, owner, ends-apart)

  row-rests : (p : ℕ) (r : ThreadRow) → p < length c.processes → Has (rows_of d.threads p) r → started now r ≡ r
  row-rests p r process h = grind (arith, nat_tests, owner, starts-apart, and-false)

  -- the children of a family stand among the rows of the process
  child-row : (p : ℕ) (f : Family) (r : ThreadRow) → slice_get d.threads.families p ≡ Some f → Has f.children r → (p < length c.processes) × Has (rows_of d.threads p) r
  child-row p f r at h = grind (arith, nat_tests, slice_get_within)

  none-ends : map (family_ended now) d.threads.families ≡ d.threads.families
  none-ends =
      map-places-stay (family_ended now) d.threads.families
      (λ p f at.
      ap (λ rows. record f { children = rows })
      (filter_map-rests (kept now) f.children (λ r h. let row = child-row p f r at h in row-lasts p r row.0 row.1)))

  none-starts : map (family_started now) d.threads.families ≡ d.threads.families
  none-starts =
      map-places-stay (family_started now) d.threads.families
      (λ p f at.
      ap (λ rows. record f { children = rows })
      (map-rests (started now) f.children (λ r h. let row = child-row p f r at h in row-rests p r row.0 row.1)))

  threads-rest : due_threads now d.threads ≡ d.threads
  threads-rest = grind (arith, nat_tests, none-ends, none-starts)

  loans-last : (p : ℕ) → p < length c.processes → given_back now (counted_lender c was all p) ≡ counted_lender c was all p
  loans-last p process =
      let test : Thread → Bool = λ y. not (is_main y) && not (is_void y) && not (is_ended_by c was y) in
      ap (λ (ls : List Loan). with_loans ls (counted_lender c was all p))
      (filter-rests (counted_loan c) (λ (l : Loan). not (is_ended_at now l)) (standing_children c was all p)
      (λ y h.
      let is = filter-has test (family c p all) y h in
      ap not (ends-later p y process is.0 (child y is.1))))
    where
      child : (y : Thread) → (not (is_main y) && not (is_void y) && not (is_ended_by c was y)) ≡ true → is_main y ≡ false
      child y on =
          elim (cases_Bool (is_main y)) [
            | inr off' ↦ off'
            | inl main ↦ let no : false ≡ true = rw main at on in absurd (cc)
          ]

  lenders-last : map (given_back now) (map (counted_lender c was all) (range_with_len 0 (length c.processes))) ≡ map (counted_lender c was all) (range_with_len 0 (length c.processes))
  lenders-last =
      let n = length c.processes in
      let f : ℕ → Lender = counted_lender c was all in
      let xs : List Lender = map f (range_with_len 0 n) in
      map-places-stay (given_back now) xs
      (λ k x at.
      let within : k < length xs = slice_get_within xs k x at in
      let size : length xs ≡ n = length-map-range_with_len f 0 n in
      let known : k < n = omega (arith, within, size) in
      let some : slice_get xs k ≡ Some (f k) = slice_get-get_or xs k (f k) within ∙ ap Some (get_or-map-range_with_len f 0 n k k (f k) known (omega arith)) in
      let same : Some (f k) ≡ Some x = sym some ∙ at in
      let is : f k ≡ x = cc in
      subst (λ (y : Lender). given_back now y ≡ y) is (loans-last k known))

  loans-rest : all_given_back now d.loans ≡ d.loans
  loans-rest = grind (arith, nat_tests, lenders-last)

  pub rests : due d ≡ d
  rests = grind (arith, nat_tests, threads-rest, loans-rest)

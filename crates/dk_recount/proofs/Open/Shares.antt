-- The rows of the table are those of the threads, and the loans give them their shares.
use Rattle.dk_recount.proofs.Names.{◌≡◌, ◌<◌, ◌≤◌, ◌+◌, ◌∙◌, inl, inr, ◌&&◌, ◌||◌, Bool, true, false, cond, eqb, ℕ, zero, suc, List, [], ◌∷◌, length, map, Option, Some, None, refl, ap, sym, subst, arith, slice_get, find, filter_map, sum_by, not, cons_option, option_map_or, cases_Bool, cond-true, cond-false, sum_by-cons, Configuration, sum_from, main_level, window_start, ThreadId, Entry, is_same, Has, Thread, threads, family, is_main, is_void, is_ended_by, share, same-self, flat-has, filter_map-has, Clock, ThreadRow, Family, is_row_of, Table, rows_of, find_row, children_at, has_row, row_at, counted_row, unplaced, main_id, Book, present_main_share, present_child_share, future_shares, HasSlowerChildren, IsFamilyOf, recount, begins, FamilyStands, past_to_come, begins-start, rows_in, rows_from, all_rows, share_in, shares_in, nat_tests}
use Rattle.dk_recount.proofs.Open.RowByRow.{shares-append}
use Rattle.dk_recount.proofs.Open.Due.{Laws, IsDue}

module _ (laws : Laws) (c : Configuration) (all : List Entry) (t : Table) (b : Book) (w : Clock) (is : IsDue c all t b w) where
  abbrev now : ℕ
  now = length all

  pub stands : (p : ℕ) → p < length c.processes → FamilyStands c all p
  stands p known = laws.families c all is.checked is.accepted is.audited p known

  pub among-all : (p : ℕ) (x : Thread) → p < length c.processes → Has (family c p all) x → Has (threads c all) x
  among-all p x known h = flat-has (λ q. family c q all) 0 (length c.processes) p x (omega arith) (omega arith) h

  -- who has no row has no share any more
  pub absent-share : (p : ℕ) (x : Thread) → p < length c.processes → Has (family c p all) x → has_row c now x ≡ false → share c all x now ≡ 0
  absent-share p x known h none =
      (laws.absent c all is.checked is.accepted is.audited).shares x now (among-all p x known h) (gone (is_main x) (is_void x) (is_ended_by c now x) none) (omega arith)
    where
      gone : (m v g : Bool) → (m || (not v && not g)) ≡ false → (v || g) ≡ true
      gone true v g h' = absurd (cc)
      gone false true g h' = refl
      gone false false true h' = refl
      gone false false false h' = absurd (cc)

  -- a row of the table is that of a thread
  pub row-thread : (p : ℕ) (row : ThreadRow) → p < length c.processes → Has (rows_of t p) row
      → (x : Thread) × Has (family c p all) x × (has_row c now x ≡ true) × (unplaced row ≡ counted_row c now x)
  row-thread p row known h =
      let r = filter_map-has (row_at c now) (family c p all) (unplaced row)
      (subst (λ rows. Has rows (unplaced row)) (is.rows.rows p known) (mapped (rows_of t p) h)) in
      let s = split (has_row c now r.0) r.0 r.2 in
      (r.0, r.1, s.0, sym s.1)
    where
      mapped : (rows : List ThreadRow) → Has rows row → Has (map unplaced rows) (unplaced row)
      mapped [] k = absurd k
      mapped (z ∷ rows) (inl e) = inl (ap unplaced e)
      mapped (z ∷ rows) (inr k) = inr (mapped rows k)

      split : (on : Bool) (x : Thread) → cond on (Some (counted_row c now x)) None ≡ Some (unplaced row) → (on ≡ true) × (counted_row c now x ≡ unplaced row)
      split true x e = (refl, cc)
      split false x e = absurd (cc)

  -- the main's row comes first
  pub rows-are : (p : ℕ) → p < length c.processes → rows_in t p ≡ rows_of t p
  rows-are p known = go (slice_get t.families p) refl
    where
      s : FamilyStands c all p
      s = stands p known

      main-first : map unplaced (rows_of t p) ≡ counted_row c now s.main ∷ filter_map (row_at c now) s.children
      main-first =
          let main : is_main s.main ≡ true = ap (λ (i : ThreadId). eqb i.serial 0) s.id in
          let there : row_at c now s.main ≡ Some (counted_row c now s.main) = rw main refl in
          is.rows.rows p known ∙ ap (filter_map (row_at c now)) s.rows ∙ ap (λ o. cons_option o (filter_map (row_at c now) s.children)) there

      go : (o : Option Family) → slice_get t.families p ≡ o → rows_in t p ≡ rows_of t p
      go None at =
          let none : map unplaced [] ≡ counted_row c now s.main ∷ filter_map (row_at c now) s.children =
          ap (λ o. map unplaced (option_map_or (λ (f : Family). f.main ∷ f.children) o [])) (sym at) ∙ main-first in
          absurd (cc)
      go (Some f) at =
          let rows : rows_of t p ≡ f.main ∷ f.children = ap (λ o. option_map_or (λ (f : Family). f.main ∷ f.children) o []) at in
          let children : children_at t p ≡ f.children = ap (λ o. option_map_or (λ (f : Family). f.children) o []) at in
          let first : unplaced f.main ∷ map unplaced f.children ≡ counted_row c now s.main ∷ filter_map (row_at c now) s.children =
          ap (map unplaced) (sym rows) ∙ main-first in
          let head : unplaced f.main ≡ counted_row c now s.main = cc in
          let name : f.main.id ≡ main_id p = ap (λ (r : ThreadRow). r.id) head ∙ s.id in
          let test : is_row_of (main_id p) f.main ≡ true = subst (λ i. is_same (main_id p) i ≡ true) (sym name) (same-self (main_id p)) in
          let found : find_row t (main_id p) ≡ Some f.main = ap (find (is_row_of (main_id p))) rows ∙ rw test refl in
          ap (λ o. cons_option o (children_at t p)) found ∙ ap (λ rest. f.main ∷ rest) children ∙ sym rows

  -- a process and its threads, for the loans
  pub family-is : (p : ℕ) → (known : p < length c.processes) → IsFamilyOf c now all p (stands p known).main (stands p known).children
  family-is p known = grind (arith, nat_tests, stands, among-all)

  -- the loans give each thread its share of the present window
  pub share-is : (p : ℕ) (x : Thread) → (known : p < length c.processes) → Has (family c p all) x
      → share_in b w (counted_row c now x) ≡ share c all x (window_start c x.level now)
  share-is p x known h =
      elim (subst (λ rows. Has rows x) s.rows h) [
        | inl same ↦ subst (λ (y : Thread). share_in b w (counted_row c now y) ≡ share c all y (window_start c y.level now)) same main-share
        | inr child ↦ child-share x child
      ]
    where
      s : FamilyStands c all p
      s = stands p known

      is-main : is_main s.main ≡ true
      is-main = ap (λ (i : ThreadId). eqb i.serial 0) s.id

      process : s.main.id.process ≡ p
      process = ap (λ (i : ThreadId). i.process) s.id

      slower : HasSlowerChildren c all p
      slower y among =
          elim (subst (λ rows. Has rows y) s.rows among) [
            | inl same ↦
                let level : y.level ≡ main_level c p = ap (λ (z : Thread). z.level) (sym same) ∙ s.level in
                let low = is.checked.levels p known in
                (omega (arith, level), omega (arith, level, low))
            | inr child ↦ ((s.each y child).low, (s.each y child).known)
          ]

      found : find is_main (family c p all) ≡ Some s.main
      found = ap (find is_main) s.rows ∙ rw is-main refl

      main-share : share_in b w (counted_row c now s.main) ≡ share c all s.main (window_start c s.main.level now)
      main-share =
          cond-true (is_main s.main) (present_main_share b w s.main.id.process) (present_child_share b w s.main.id.process s.main.id.serial) is-main
          ∙ ap (λ z. present_main_share z w s.main.id.process) is.loans
          ∙ ap (λ z. present_main_share (recount c now all) z s.main.id.process) is.windows
          ∙ laws.mains c now all s.main is.checked (subst (λ q. q < length c.processes) (sym process) known) is-main
          (subst (λ q. find is_main (family c q all) ≡ Some s.main) (sym process) found) (subst (HasSlowerChildren c all) (sym process) slower)
          ∙ ap (λ l. share c all s.main (window_start c l now)) (ap (main_level c) process ∙ sym s.level)

      child-share : (y : Thread) → Has s.children y → share_in b w (counted_row c now y) ≡ share c all y (window_start c y.level now)
      child-share y child =
          let y-stands = s.each y child in
          cond-false (is_main y) (present_main_share b w y.id.process) (present_child_share b w y.id.process y.id.serial) y-stands.child
          ∙ ap (λ q. present_child_share b w q y.id.serial) y-stands.process
          ∙ ap (λ z. present_child_share z w p y.id.serial) is.loans
          ∙ ap (λ z. present_child_share (recount c now all) z p y.id.serial) is.windows
          ∙ laws.children c now all p s.main s.children y is.checked known (family-is p known) child

  -- a sum over the rows of a process is one over its threads
  pub sum-rows : (f : ThreadRow → ℕ) (g : Thread → ℕ) (xs : List Thread)
      → ((x : Thread) → Has xs x → has_row c now x ≡ true → f (counted_row c now x) ≡ g x)
      → ((x : Thread) → Has xs x → has_row c now x ≡ false → g x ≡ 0)
      → sum_by f (filter_map (row_at c now) xs) ≡ sum_by g xs
  sum-rows f g [] same none = refl
  sum-rows f g (x ∷ xs) same none =
      let rest = sum-rows f g xs (λ y h. same y (inr h)) (λ y h. none y (inr h)) in
      let right = sum_by-cons g x xs in
      elim (cases_Bool (has_row c now x)) [
        | inl on ↦
            let here = same x (inl refl) on in
            let left : sum_by f (filter_map (row_at c now) (x ∷ xs)) ≡ f (counted_row c now x) + sum_by f (filter_map (row_at c now) xs) = grind (arith, nat_tests, cond-true, sum_by-cons) in
            omega (arith, rest, right, here, left)
        | inr off ↦
            let here = none x (inl refl) off in
            let left : sum_by f (filter_map (row_at c now) (x ∷ xs)) ≡ sum_by f (filter_map (row_at c now) xs) = grind (arith, nat_tests, cond-false) in
            omega (arith, rest, right, here, left)
      ]

  pub sum-unplaced : (f : ThreadRow → ℕ) (rows : List ThreadRow) → ((row : ThreadRow) → f (unplaced row) ≡ f row) → sum_by f rows ≡ sum_by f (map unplaced rows)
  sum-unplaced f [] same = refl
  sum-unplaced f (row ∷ rows) same = grind (arith, nat_tests, sum_by-cons, sum-unplaced f rows)

  -- a test of levels all of whose windows begin
  abbrev pub OnlyBegin : (ℕ → Bool) → Type 0
  OnlyBegin test = (i : ℕ) → i < length c.levels → test i ≡ true → begins c i now ≡ true

  pub level-known : (p : ℕ) (x : Thread) → p < length c.processes → Has (family c p all) x → x.level < length c.levels
  level-known p x known h =
      elim (subst (λ rows. Has rows x) (stands p known).rows h) [
        | inl same ↦
            let level : x.level ≡ main_level c p = ap (λ (z : Thread). z.level) (sym same) ∙ (stands p known).level in
            let low = is.checked.levels p known in
            omega (arith, level, low)
        | inr child ↦ ((stands p known).each x child).known
      ]

  -- the shares of a process where windows begin
  pub shares-are : (test : ℕ → Bool) (p : ℕ) → (known : p < length c.processes) → OnlyBegin test
      → shares_in b w test (rows_in t p) ≡ sum_by (λ x. cond (test x.level) (share c all x now) 0) (family c p all)
  shares-are test p known only =
      let f : ThreadRow → ℕ = λ row. cond (test row.level) (share_in b w row) 0 in
      let g : Thread → ℕ = λ x. cond (test x.level) (share c all x now) 0 in
      ap (sum_by f) (rows-are p known)
      ∙ sum-unplaced f (rows_of t p) (λ row. refl)
      ∙ ap (sum_by f) (is.rows.rows p known)
      ∙ sum-rows f g (family c p all)
      (λ x h there. pass x h (test x.level) refl)
      (λ x h none. drop-none (test x.level) (share c all x now) (absent-share p x known h none))
    where
      pass : (x : Thread) → Has (family c p all) x → (on : Bool) → test x.level ≡ on
          → cond (test x.level) (share_in b w (counted_row c now x)) 0 ≡ cond (test x.level) (share c all x now) 0
      pass x h true on =
          ap (λ n. cond (test x.level) n 0)
          (share-is p x known h ∙ ap (share c all x) (begins-start c x.level now (only x.level (level-known p x known h) on)))
      pass x h false off =
          cond-false (test x.level) (share_in b w (counted_row c now x)) 0 off ∙ sym (cond-false (test x.level) (share c all x now) 0 off)

      drop-none : (on : Bool) (n : ℕ) → n ≡ 0 → ◌≡◌ {A = ℕ} (cond on n 0) 0
      drop-none true n zero-share = zero-share
      drop-none false n zero-share = refl

  shares-from : (test : ℕ → Bool) (low n : ℕ) → low + n ≤ length c.processes → OnlyBegin test
      → shares_in b w test (rows_from t low n) ≡ sum_from low n (λ p. sum_by (λ x. cond (test x.level) (share c all x now) 0) (family c p all))
  shares-from test low zero within only = refl
  shares-from test low (suc n) within only = grind (arith, nat_tests, shares-are, shares-append, shares-from test (suc low) n)

  pub all-shares : (test : ℕ → Bool) → OnlyBegin test
      → shares_in b w test (all_rows t) ≡ sum_from 0 (length c.processes) (λ p. sum_by (λ x. cond (test x.level) (share c all x now) 0) (family c p all))
  all-shares test only = grind (arith, nat_tests, shares-from)

  -- and those to come
  pub future-is : (k p : ℕ) → p < length c.processes → future_shares b w p k ≡ past_to_come c now all k p
  future-is k p known = grind (arith, nat_tests, stands, family-is, laws.future c now k all p (stands p known).main (stands p known).children is.checked known (family-is p known))

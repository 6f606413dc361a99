-- The levels at which the threads of a past run are those that its table tells, and so are the holders at a level.
use Rattle.dk_mutex.proofs.Names.{◌≡◌, ◌<◌, ◌≤◌, ◌+◌, ◌∙◌, ◌⊎◌, inl, inr, ◌&&◌, Bool, true, false, eqb, leb, ℕ, zero, suc, List, [], ◌∷◌, length, map, min, Option, Some, None, ap, sym, subst, refl, arith, find, option_map_or, cases_Bool, and_parts, eqb-true, nat_tests, length-map-range_with_len, get_or-map-range_with_len, Configuration, ceiling, ThreadId, Entry, is_same, Has, Thread, threads, Hold, held_by, is_holding, least_ceiling, level_holding, past_level, same-self, same-id, ceiling-most, Holder, Lockable, row_of, rows_of, holder_left, left_of, ceiling_of, joined, least, of_row, left_at, effective_level, is_holder_at, first_holder, holder_at, IsRecount, HasLevels, HoldersFit, emptied, hold_at}
use Rattle.std.proofs.Common.{option_map}
use Rattle.std.specs.Prelude.{slice_get}
use Rattle.dk_trace.specs.Holds.{hold_left}
use Rattle.dk_trace.specs.Choices.{holder_at as past_holder_at}
use Rattle.dk_mutex.proofs.Least.{no_row}
use Rattle.dk_mutex.proofs.Lefts.{ceiling-read}

abbrev pub ceiling_at : List Lockable → ℕ → ℕ
ceiling_at rows m = of_row (λ row. row.ceiling) rows m

ceiling-emptied : (rows : List Lockable) (m : ℕ) → ceiling_at (map emptied rows) m ≡ ceiling_at rows m
ceiling-emptied [] m = refl
ceiling-emptied (row ∷ rows) zero = refl
ceiling-emptied (row ∷ rows) (suc m) = ceiling-emptied rows m

ceiling-start : (c : Configuration) (m : ℕ) → m < length c.mutexes → ceiling_at (rows_of c) m ≡ ceiling c m
ceiling-start c m below =
    let many : length (rows_of c) ≡ length c.mutexes = length-map-range_with_len (row_of c) 0 (length c.mutexes) in
    sym (ceiling-read (rows_of c) m no_row (omega arith))
    ∙ ap (λ (row : Lockable). row.ceiling) (get_or-map-range_with_len (row_of c) 0 (length c.mutexes) m m no_row below (omega arith))

pub ceiling-past : (c : Configuration) (past : List Entry) (rows : List Lockable) (m : ℕ) → IsRecount c past rows → m < length c.mutexes
    → ceiling_at rows m ≡ ceiling c m
ceiling-past c past rows m is within =
    sym (ceiling-emptied rows m)
    ∙ ap (λ all. ceiling_at all m) is.mutexes
    ∙ ceiling-start c m within

-- what a row says of a thread
data Says (x : ThreadId) (row : Lockable) : Type 0 where
  nothing : ceiling_of x row ≡ None → left_of x row ≡ None → Says x row
  holds : (n : ℕ) → ceiling_of x row ≡ Some row.ceiling → left_of x row ≡ Some n → Says x row

says-at : (x : ThreadId) (row : Lockable) (o : Option Holder) → row.holder ≡ o → Says x row
says-at x row None is = nothing (rw is refl) (rw is refl)
says-at x row (Some h) is =
    elim (cases_Bool (is_same x h.thread)) [
      | inl same ↦ holds h.left (rw is (rw same refl)) (rw is (rw same refl))
      | inr other ↦ nothing (rw is (rw other refl)) (rw is (rw other refl))
    ]

says : (x : ThreadId) (row : Lockable) → Says x row
says x row = says-at x row row.holder refl

-- the least ceiling is below those of all mutexes that the thread holds, and one of them
record IsLeast (x : ThreadId) (rows : List Lockable) (v : ℕ) : Type 0 where
  below : (m n : ℕ) → left_at x rows m ≡ Some n → v ≤ ceiling_at rows m
  place : ℕ
  left : ℕ
  there : left_at x rows place ≡ Some left
  value : ceiling_at rows place ≡ v

Least : ThreadId → List Lockable → Option ℕ → Type 0
Least x rows None = (m n : ℕ) → left_at x rows m ≡ Some n → ⊥
Least x rows (Some v) = IsLeast x rows v

further : (x : ThreadId) (row : Lockable) (rows : List Lockable) (o : Option ℕ) → left_of x row ≡ None → Least x rows o → Least x (row ∷ rows) o
unfolding Least
further x row rows None free none = go
  where
    go : (m n : ℕ) → left_at x (row ∷ rows) m ≡ Some n → ⊥
    go zero n e = absurd (cc)
    go (suc m) n e = none m n e
further x row rows (Some v) free is = record { below = go; place = suc is.place; left = is.left; there = is.there; value = is.value }
  where
    go : (m n : ℕ) → left_at x (row ∷ rows) m ≡ Some n → v ≤ ceiling_at (row ∷ rows) m
    go zero n e = absurd (cc)
    go (suc m) n e = is.below m n e

nearer : (x : ThreadId) (row : Lockable) (rows : List Lockable) (k : ℕ) (o : Option ℕ) → left_of x row ≡ Some k → Least x rows o
    → Least x (row ∷ rows) (joined (Some row.ceiling) o)
unfolding Least
nearer x row rows k None here none = record { below = go; place = 0; left = k; there = here; value = refl }
  where
    go : (m n : ℕ) → left_at x (row ∷ rows) m ≡ Some n → row.ceiling ≤ ceiling_at (row ∷ rows) m
    go zero n e = omega arith
    go (suc m) n e = absurd (none m n e)
nearer x row rows k (Some v) here is =
    elim (cases_Bool (leb row.ceiling v)) [
      | inl first ↦
          let le : row.ceiling ≤ v = grind (arith, nat_tests) in
          record { below = go; place = 0; left = k; there = here; value = omega arith }
      | inr later ↦
          let less : v < row.ceiling = grind (arith, nat_tests) in
          let value : ceiling_at rows is.place ≡ min row.ceiling v = is.value ∙ omega arith in
          record { below = go; place = suc is.place; left = is.left; there = is.there; value = value }
    ]
  where
    go : (m n : ℕ) → left_at x (row ∷ rows) m ≡ Some n → min row.ceiling v ≤ ceiling_at (row ∷ rows) m
    go zero n e = omega arith
    go (suc m) n e = let le = is.below m n e in omega (arith, le)

least-next : (x : ThreadId) (row : Lockable) (rows : List Lockable) (o : Option ℕ) → Least x rows o → Says x row → Least x (row ∷ rows) (joined (ceiling_of x row) o)
least-next x row rows o rest (nothing none free) = subst (λ q. Least x (row ∷ rows) (joined q o)) (sym none) (further x row rows o free rest)
least-next x row rows o rest (holds n some here) = subst (λ q. Least x (row ∷ rows) (joined q o)) (sym some) (nearer x row rows n o here rest)

least-is : (x : ThreadId) (rows : List Lockable) → Least x rows (least (map (ceiling_of x) rows))
unfolding Least
least-is x [] = λ m n e. absurd (cc)
least-is x (row ∷ rows) = least-next x row rows (least (map (ceiling_of x) rows)) (least-is x rows) (says x row)

-- the holds of a past
pub hold_at-has : (m : ℕ) (held : List Hold) (h : Hold) → hold_at m held ≡ Some h → Has held h × (h.mutex ≡ m)
hold_at-has m [] h is = absurd (cc)
hold_at-has m (k ∷ held) h is = grind (arith, nat_tests, hold_at-has m held h)

has-hold_at : (held : List Hold) (h : Hold) → Has held h → (k : Hold) × (hold_at h.mutex held ≡ Some k)
has-hold_at [] h has = absurd has
has-hold_at (k ∷ held) h has =
    elim (cases_Bool (eqb k.mutex h.mutex)) [
      | inl here ↦ (k, rw here refl)
      | inr other ↦
          elim has [
            | inl is ↦ grind (arith, nat_tests)
            | inr rest ↦ let r = has-hold_at held h rest in (r.0, rw other r.1)
          ]
    ]

ceiling-below : (c : Configuration) (n : ℕ) (held : List Hold) (h : Hold) → Has held h → least_ceiling c n held ≤ ceiling c h.mutex
ceiling-below c n [] h has = absurd has
ceiling-below c n (k ∷ held) h (inl is) = let e : ceiling c k.mutex ≡ ceiling c h.mutex = ap (λ (z : Hold). ceiling c z.mutex) is in omega (arith, e)
ceiling-below c n (k ∷ held) h (inr has) = let rest = ceiling-below c n held h has in omega (arith, rest)

ceiling-some : (c : Configuration) (n : ℕ) (held : List Hold)
    → (least_ceiling c n held ≡ n) ⊎ ((h : Hold) × Has held h × (ceiling c h.mutex ≡ least_ceiling c n held))
ceiling-some c n [] = inl refl
ceiling-some c n (h ∷ held) =
    elim (cases_Bool (leb (ceiling c h.mutex) (least_ceiling c n held))) [
      | inl first ↦ let le : ceiling c h.mutex ≤ least_ceiling c n held = grind (arith, nat_tests) in inr (h, inl refl, omega arith)
      | inr later ↦
          let less : least_ceiling c n held < ceiling c h.mutex = grind (arith, nat_tests) in
          elim (ceiling-some c n held) [
            | inl own ↦ inl (omega (arith, own))
            | inr r ↦ let e = r.2 in inr (r.0, inr r.1, omega (arith, e))
          ]
    ]

module _ (c : Configuration) (past : List Entry) (rows : List Lockable) (is : IsRecount c past rows) (fit : HoldersFit c past) where
  -- the table has each hold of the past
  hold-there : (x : ThreadId) (h : Hold) → Has (held_by x past) h → (n : ℕ) × (left_at x rows h.mutex ≡ Some n)
  hold-there x h has =
      let r = has-hold_at (held_by x past) h has in
      (hold_left c r.0, is.holds x h.mutex ∙ ap (option_map (hold_left c)) r.1)

  -- and no others
  there-hold : (x : ThreadId) (m n : ℕ) → left_at x rows m ≡ Some n → (h : Hold) × Has (held_by x past) h × (h.mutex ≡ m)
  there-hold x m n e = go (hold_at m (held_by x past)) refl
    where
      go : (o : Option Hold) → hold_at m (held_by x past) ≡ o → (h : Hold) × Has (held_by x past) h × (h.mutex ≡ m)
      go None nothing' =
          let none : None ≡ Some n = sym (is.holds x m ∙ ap (option_map (hold_left c)) nothing') ∙ e in absurd (cc)
      go (Some h) some = let r = hold_at-has m (held_by x past) h some in (h, r.0, r.1)

  level-by : (x : ThreadId) (own : ℕ) (held : List Hold) → held_by x past ≡ held → (o : Option ℕ) → Least x rows o
      → option_map_or (λ n. n) o own ≡ level_holding c own held
  unfolding Least
  level-by x own [] held None none = refl
  level-by x own [] held (Some v) least =
      let r = there-hold x least.place least.left least.there in
      let nothing : Has [] r.0 = subst (λ hs. Has hs r.0) held r.1 in
      absurd nothing
  level-by x own (h ∷ hs) held None none =
      let r = hold-there x h (subst (λ ks. Has ks h) (sym held) (inl refl)) in
      absurd (none h.mutex r.0 r.1)
  level-by x own (h ∷ hs) held (Some v) least =
      let r = there-hold x least.place least.left least.there in
      let among : Has (h ∷ hs) r.0 = subst (λ ks. Has ks r.0) held r.1 in
      let known = fit.mutexes x r.0 r.1 in
      let at : ceiling_at rows r.0.mutex ≡ v = ap (ceiling_at rows) r.2 ∙ least.value in
      let here = ceiling-past c past rows r.0.mutex is known in
      let low : level_holding c own (h ∷ hs) ≤ ceiling c r.0.mutex = below among in
      let high = attained in
      omega (arith, at, here, low, high)
    where
      below : {k : Hold} → Has (h ∷ hs) k → level_holding c own (h ∷ hs) ≤ ceiling c k.mutex
      below {k} (inl e) =
          let same : ceiling c h.mutex ≡ ceiling c k.mutex = ap (λ (z : Hold). ceiling c z.mutex) e in
          let most = ceiling-most c (ceiling c h.mutex) hs in omega (arith, same, most)
      below {k} (inr has) = ceiling-below c (ceiling c h.mutex) hs k has

      reached : (k : Hold) → Has (h ∷ hs) k → v ≤ ceiling c k.mutex
      reached k has =
          let has' : Has (held_by x past) k = subst (λ ks. Has ks k) (sym held) has in
          let r = hold-there x k has' in
          let low = least.below k.mutex r.0 r.1 in
          let here = ceiling-past c past rows k.mutex is (fit.mutexes x k has') in
          omega (arith, low, here)

      attained : v ≤ level_holding c own (h ∷ hs)
      attained =
          elim (ceiling-some c (ceiling c h.mutex) hs) [
            | inl first ↦ let low = reached h (inl refl) in omega (arith, first, low)
            | inr r ↦ let low = reached r.0 (inr r.1) in let e = r.2 in omega (arith, low, e)
          ]

  pub level-past : (x : ThreadId) (own : ℕ) → effective_level x own rows ≡ level_holding c own (held_by x past)
  level-past x own = level-by x own (held_by x past) refl (least (map (ceiling_of x) rows)) (least-is x rows)

  -- a thread that has a mutex in the table is one of the past, of the level that the table has
  holder-known : HasLevels c past rows → (m : ℕ) (row : Lockable) (h : Holder) → slice_get rows m ≡ Some row → row.holder ≡ Some h
      → (y : Thread) × Has (threads c past) y × (y.id ≡ h.thread) × (is_holding (held_by y.id past) ≡ true) × (h.level ≡ y.level)
  holder-known levels m row h at held =
      let self = same-self h.thread in
      let own : left_of h.thread row ≡ Some h.left = rw held (rw self refl) in
      let left : left_at h.thread rows m ≡ Some h.left = rw at own in
      let r = there-hold h.thread m h.left left in
      let holding : is_holding (held_by h.thread past) ≡ true = some-held (held_by h.thread past) r.0 r.1 in
      let y = fit.known h.thread holding in
      let same : is_same y.0.id h.thread ≡ true = subst (λ i. is_same i h.thread ≡ true) (sym y.2) self in
      (y.0, y.1, y.2, subst (λ i. is_holding (held_by i past) ≡ true) (sym y.2) holding, levels m row h y.0 at held y.1 same)
    where
      some-held : (held : List Hold) (k : Hold) → Has held k → is_holding held ≡ true
      some-held [] k has = absurd has
      some-held (z ∷ held) k has = refl

  abbrev runs-at : ℕ → Thread → Bool
  runs-at k x = is_holding (held_by x.id past) && eqb (past_level c past x) k

  -- the first holder of the last rows that runs at the level is a thread that does
  first-known : HasLevels c past rows → (k low : ℕ) (rest : List Lockable) → ((i : ℕ) → slice_get rest i ≡ slice_get rows (low + i))
      → (id : ThreadId) → first_holder rows k rest ≡ Some id → (y : Thread) × Has (threads c past) y × (y.id ≡ id) × (runs-at k y ≡ true)
  first-known levels k low [] same id found = absurd (cc)
  first-known levels k low (row ∷ rest) same id found =
      elim (cases_Bool (is_holder_at rows k row.holder)) [
        | inl here ↦ go row.holder refl (rw here at found) here
        | inr other ↦ first-known levels k (suc low) rest (λ i. same (suc i) ∙ ap (slice_get rows) (omega arith)) id (rw other at found)
      ]
    where
      go : (o : Option Holder) → row.holder ≡ o → option_map (λ (h : Holder). h.thread) row.holder ≡ Some id → is_holder_at rows k row.holder ≡ true
          → (y : Thread) × Has (threads c past) y × (y.id ≡ id) × (runs-at k y ≡ true)
      go None is' found' here = let none : None ≡ Some id = rw is' at found' in absurd (cc)
      go (Some h) is' found' here =
          let at : slice_get rows (low + 0) ≡ Some row = sym (same 0) in
          let y = holder-known levels (low + 0) row h at is' in
          let some : Some h.thread ≡ Some id = rw is' at found' in
          let name : h.thread ≡ id = cc in
          let test : eqb (effective_level h.thread h.level rows) k ≡ true = rw is' at here in
          let level : effective_level h.thread h.level rows ≡ past_level c past y.0 = grind (arith, nat_tests, level-past) in
          let test' : eqb (past_level c past y.0) k ≡ true = subst (λ n. eqb n k ≡ true) level test in
          let holding = y.3 in
          (y.0, y.1, y.2 ∙ name, rw (holding, test') refl)

  -- a holder that runs at the level is found
  found-first : HasLevels c past rows → (k low : ℕ) (rest : List Lockable) → ((i : ℕ) → slice_get rest i ≡ slice_get rows (low + i))
      → first_holder rows k rest ≡ None → (m : ℕ) (row : Lockable) (h : Holder) → slice_get rest m ≡ Some row → row.holder ≡ Some h
      → eqb (effective_level h.thread h.level rows) k ≡ false
  found-first levels k low [] same none m row h at held = absurd (cc)
  found-first levels k low (first ∷ rest) same none m row h at held =
      elim (cases_Bool (is_holder_at rows k first.holder)) [
        | inl here ↦ absurd (no-holder first.holder (rw here at none) here)
        | inr other ↦
            go m at other
            (λ i at'. found-first levels k (suc low) rest (λ j. same (suc j) ∙ ap (slice_get rows) (omega arith)) (rw other at none) i row h at' held)
      ]
    where
      no-holder : (o : Option Holder) → option_map (λ (h : Holder). h.thread) o ≡ None → is_holder_at rows k o ≡ true → ⊥
      no-holder None e here = absurd (cc)
      no-holder (Some h) e here = absurd (cc)

      go : (m : ℕ) → slice_get (first ∷ rest) m ≡ Some row → is_holder_at rows k first.holder ≡ false
          → ((i : ℕ) → slice_get rest i ≡ Some row → eqb (effective_level h.thread h.level rows) k ≡ false) → eqb (effective_level h.thread h.level rows) k ≡ false
      go zero at other later =
          let e : first ≡ row = cc in
          let held' : first.holder ≡ Some h = ap (λ (z : Lockable). z.holder) e ∙ held in
          rw held' at other
      go (suc m) at other later = later m at

  -- where a row has a left of the thread, the thread is its holder
  row-held : (x : ThreadId) (all : List Lockable) (m n : ℕ) → left_at x all m ≡ Some n
      → (row : Lockable) × (h : Holder) × (slice_get all m ≡ Some row) × (row.holder ≡ Some h) × (h.thread ≡ x)
  row-held x [] m n e = absurd (cc)
  row-held x (row ∷ all) zero n e = go row.holder refl e
    where
      go : (o : Option Holder) → row.holder ≡ o → holder_left x row.holder ≡ Some n
          → (r : Lockable) × (h : Holder) × (slice_get (row ∷ all) zero ≡ Some r) × (r.holder ≡ Some h) × (h.thread ≡ x)
      go None is' e' = let none : None ≡ Some n = rw is' at e' in absurd (cc)
      go (Some h) is' e' =
          elim (cases_Bool (is_same x h.thread)) [
            | inl same ↦ (row, h, refl, is', sym (same-id x h.thread same))
            | inr other ↦ let none : None ≡ Some n = rw (is', other) at e' in absurd (cc)
          ]
  row-held x (row ∷ all) (suc m) n e = row-held x all m n e

  find-has : (test : Thread → Bool) (xs : List Thread) (x : Thread) → find test xs ≡ Some x → Has xs x × (test x ≡ true)
  find-has test [] x is = absurd (cc)
  find-has test (y ∷ xs) x is = grind (arith, nat_tests, find-has test xs)

  find-none : (test : Thread → Bool) (xs : List Thread) (x : Thread) → find test xs ≡ None → Has xs x → test x ≡ false
  find-none test [] x none has = absurd has
  find-none test (y ∷ xs) x none has = grind (arith, nat_tests, find-none test xs x)

  first-hold : (held : List Hold) → is_holding held ≡ true → (h : Hold) × Has held h
  first-hold [] holding = absurd (cc)
  first-hold (h ∷ held) holding = (h, inl refl)

  -- a thread of the past that runs at the level is no stranger to the table
  runs-found : HasLevels c past rows → (k : ℕ) → first_holder rows k rows ≡ None → (z : Thread) → Has (threads c past) z → runs-at k z ≡ false
  runs-found levels k none z among =
      elim (cases_Bool (runs-at k z)) [
        | inr off ↦ off
        | inl runs ↦
            let parts = and_parts (is_holding (held_by z.id past)) (eqb (past_level c past z) k) runs in
            let h = first-hold (held_by z.id past) parts.0 in
            let left = hold-there z.id h.0 h.1 in
            let row = row-held z.id rows h.0.mutex left.0 left.1 in
            let off = found-first levels k 0 rows (λ i. ap (slice_get rows) (omega arith)) none h.0.mutex row.0 row.1 row.2 row.3 in
            let self : is_same z.id row.1.thread ≡ true = subst (λ i. is_same z.id i ≡ true) (sym row.4) (same-self z.id) in
            let own : row.1.level ≡ z.level = levels h.0.mutex row.0 row.1 z row.2 row.3 among self in
            let level : effective_level row.1.thread row.1.level rows ≡ past_level c past z = grind (arith, nat_tests, level-past) in
            let off' : eqb (past_level c past z) k ≡ false = subst (λ n. eqb n k ≡ false) level off in
            let on : eqb (past_level c past z) k ≡ true = parts.1 in
            absurd (cc)
      ]

  pub holder-past : HasLevels c past rows → (k : ℕ) → holder_at k rows ≡ option_map (λ (x : Thread). x.id) (past_holder_at c past k)
  holder-past levels k = go (holder_at k rows) refl (past_holder_at c past k) refl
    where
      go : (o : Option ThreadId) → holder_at k rows ≡ o → (q : Option Thread) → past_holder_at c past k ≡ q
          → o ≡ option_map (λ (x : Thread). x.id) q
      go None told None found = refl
      go None told (Some z) found =
          let r = find-has (runs-at k) (threads c past) z found in
          let off = runs-found levels k told z r.0 in
          let on : runs-at k z ≡ true = r.1 in
          absurd (cc)
      go (Some id) told None found =
          let y = first-known levels k 0 rows (λ i. ap (slice_get rows) (omega arith)) id told in
          let off = find-none (runs-at k) (threads c past) y.0 found y.1 in
          let on : runs-at k y.0 ≡ true = y.3 in
          absurd (cc)
      go (Some id) told (Some z) found =
          let y = first-known levels k 0 rows (λ i. ap (slice_get rows) (omega arith)) id told in
          let r = find-has (runs-at k) (threads c past) z found in
          let one = and_parts (is_holding (held_by y.0.id past)) (eqb (past_level c past y.0) k) y.3 in
          let two = and_parts (is_holding (held_by z.id past)) (eqb (past_level c past z) k) r.1 in
          let a : past_level c past y.0 ≡ k = eqb-true (past_level c past y.0) k one.1 in
          let b : past_level c past z ≡ k = eqb-true (past_level c past z) k two.1 in
          let same : y.0 ≡ z = fit.apart y.0 z y.1 r.0 one.0 two.0 (a ∙ sym b) in
          ap Some (sym y.2 ∙ ap (λ (x : Thread). x.id) same)

pub level_is : (c : Configuration) (past : List Entry) (rows : List Lockable) (x : Thread) → IsRecount c past rows → HoldersFit c past
    → effective_level x.id x.level rows ≡ past_level c past x
level_is c past rows x is fit = level-past c past rows is fit x.id x.level

pub holder_is : (c : Configuration) (past : List Entry) (rows : List Lockable) (k : ℕ) → IsRecount c past rows → HasLevels c past rows → HoldersFit c past
    → holder_at k rows ≡ option_map (λ (x : Thread). x.id) (past_holder_at c past k)
holder_is c past rows k is levels fit = holder-past c past rows is fit levels k

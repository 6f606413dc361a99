-- The threads that are shown, and their rows.
use Rattle.dk_inspect.proofs.Names.{◌≡◌, ◌<◌, ◌∙◌, ◌==◌, ℕ, Bool, true, List, [], ◌∷◌, ◌++◌, length, map, refl, ap, sym, subst, arith, inl, inr, Some, option_map, filter, filter_map, find, flat_map, slice_get, is_some, nat_lt, list_any, cases_Bool, nat_tests, slice_get-map, flat_map-append, Configuration, ThreadId, Entry, is_same, Has, Thread, family, threads, filter-has, list_any-has, get-has, is_row_of, counted_row, counted_rows, has_row, is_there, row_at, state_of, FamilyStands, RowsAreNamed, is_shown, state_word, word_of}

-- the rows are those of the threads that are shown
pub rows-shown : (c : Configuration) (n : ℕ) (xs : List Thread) → filter_map (row_at c n) xs ≡ map (counted_row c n) (filter (is_shown c n) xs)
rows-shown c n [] = refl
rows-shown c n (x ∷ xs) =
    elim (cases_Bool (has_row c n x)) [
      | inl shown ↦ rw shown (ap (λ rest. counted_row c n x ∷ rest) (rows-shown c n xs))
      | inr hidden ↦ rw hidden (rows-shown c n xs)
    ]

-- the row at a place
pub row-shown : (c : Configuration) (n : ℕ) (past : List Entry) (p place : ℕ)
    → slice_get (counted_rows c n past p) place ≡ option_map (counted_row c n) (slice_get (filter (is_shown c n) (family c p past)) place)
row-shown c n past p place =
    ap (λ rows. slice_get rows place) (rows-shown c n (family c p past)) ∙ slice_get-map (counted_row c n) (filter (is_shown c n) (family c p past)) place

same-self : (p : ℕ) → (p == p) ≡ true
same-self p = grind (arith, nat_tests)

-- the row that is found under the main's name is the first
pub main-found : (c : Configuration) (n : ℕ) (past : List Entry) (p : ℕ) → FamilyStands c past p
    → find (is_row_of (record { process = p; serial = 0 })) (counted_rows c n past p) ≡ slice_get (counted_rows c n past p) 0
main-found c n past p stands =
    let x = stands.main in
    let serial : x.id.serial ≡ 0 = ap (λ (y : ThreadId). y.serial) stands.id in
    let shown : has_row c n x ≡ true = rw serial refl in
    let named : is_same (record { process = p; serial = 0 }) x.id ≡ true = rw (stands.id, same-self p) refl in
    rw (stands.rows, shown, named) refl

-- the words of the states
pub word-counted : (n : ℕ) (x : Thread) → word_of (state_of n x) ≡ state_word n x
word-counted n x =
    elim (cases_Bool (is_some x.stop)) [
      | inl stopped ↦ rw stopped refl
      | inr runs ↦
          elim (cases_Bool (nat_lt n x.start)) [
            | inl waits ↦ rw (runs, waits) refl
            | inr started ↦ rw (runs, started) refl
          ]
    ]

-- a thread of a family has its process
pub process-of : (c : Configuration) (past : List Entry) (p : ℕ) (x : Thread) → FamilyStands c past p → Has (family c p past) x → x.id.process ≡ p
process-of c past p x stands h =
    elim (let at : Has (stands.main ∷ stands.children) x = subst (λ xs. Has xs x) stands.rows h in at) [
      | inl is ↦ ap (λ (y : Thread). y.id.process) (sym is) ∙ ap (λ (y : ThreadId). y.process) stands.id
      | inr child ↦ (stands.each x child).process
    ]

-- what is known of the thread at a place
pub record IsShownAt (c : Configuration) (n : ℕ) (past : List Entry) (p : ℕ) (x : Thread) : Type 0 where
  pub process : x.id.process ≡ p
  pub there : list_any (is_there c n x.id) (threads c past) ≡ true

pub shown-at : (c : Configuration) (n : ℕ) (past : List Entry) (p place : ℕ) (x : Thread) → FamilyStands c past p → RowsAreNamed c past → p < length c.processes
    → slice_get (filter (is_shown c n) (family c p past)) place ≡ Some x → IsShownAt c n past p x
shown-at c n past p place x stands named known is =
    let r = filter-has (is_shown c n) (family c p past) x (get-has (filter (is_shown c n) (family c p past)) place x is) in
    let here : is_there c n x.id x ≡ true = rw (same-self x.id.process, same-self x.id.serial) r.1 in
    record {
      process = process-of c past p x stands r.0;
      there = list_any-has (is_there c n x.id) (threads c past) x (named.all p x known r.0) here;
    }

filter-append : {X : Type 0} (test : X → Bool) (xs ys : List X) → filter test (xs ++ ys) ≡ filter test xs ++ filter test ys
filter-append test [] ys = refl
filter-append test (x ∷ xs) ys =
    elim (cases_Bool (test x)) [
      | inl passes ↦ rw passes (ap (λ rest. x ∷ rest) (filter-append test xs ys))
      | inr fails ↦ rw fails (filter-append test xs ys)
    ]

-- what is counted over all families, family by family
pub by_family : (g : Thread → List ℕ) (test : Thread → Bool) (families : ℕ → List Thread) (ps : List ℕ)
    → flat_map g (filter test (flat_map families ps)) ≡ flat_map (λ p. flat_map g (filter test (families p))) ps
by_family g test families [] = refl
by_family g test families (p ∷ ps) =
    ap (flat_map g) (filter-append test (families p) (flat_map families ps))
    ∙ flat_map-append g (filter test (families p)) (filter test (flat_map families ps))
    ∙ ap (λ rest. flat_map g (filter test (families p)) ++ rest) (by_family g test families ps)

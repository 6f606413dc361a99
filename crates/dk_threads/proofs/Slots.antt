-- The lowest free slot: how it is found, and that there is one.
use Rattle.dk_threads.proofs.Names.{◌≡◌, ◌<◌, ◌≤◌, ◌==◌, ℕ, zero, suc, ◌+◌, ◌-◌, Bool, true, false, List, [], ◌∷◌, length, refl, ap, arith, inl, inr, Some, find, not, if◌then◌else◌, nat_tests, not-true, cases_Bool, MAX_CHILDREN, numbers, ThreadRow, is_taken}
use Rattle.dk_config.proofs.Counting.{length-numbers}
use Rattle.dk_threads.specs.Table.{free_slot}

abbrev pub is_free : List ThreadRow → ℕ → Bool
is_free rows slot = not (is_taken rows slot)

-- a slot that is taken is passed
pub find-more : (test : ℕ → Bool) (slot end : ℕ) → slot < end → test slot ≡ false
    → find test (numbers slot (end - slot)) ≡ find test (numbers (slot + 1) (end - (slot + 1)))
find-more test slot end below taken = grind (arith, nat_tests)

-- how many of the slots pass the test
count : (ℕ → Bool) → List ℕ → ℕ
count test [] = 0
count test (slot ∷ slots) = let later = count test slots in if test slot then suc later else later

count-all : (slots : List ℕ) → count (is_free []) slots ≡ length slots
unfolding count
count-all [] = refl
count-all (slot ∷ slots) = ap suc (count-all slots)

count-row : (row : ThreadRow) (rows : List ThreadRow) (slots : List ℕ)
    → count (is_free rows) slots ≤ count (is_free (row ∷ rows)) slots + count (λ slot. row.slot == slot) slots
unfolding count
count-row row rows [] = omega arith
count-row row rows (slot ∷ slots) = grind (arith, nat_tests, count-row row rows slots)

count-past : (own from more : ℕ) → own < from → count (λ slot. own == slot) (numbers from more) ≡ 0
unfolding count
count-past own from zero below = refl
count-past own from (suc more) below = grind (arith, nat_tests, count-past own (suc from) more)

-- a slot stands at most once among numbers that follow one another
once : (own from : ℕ) (is_own : Bool) (later : ℕ) → (own == from) ≡ is_own → (own < suc from → later ≡ 0) → later ≤ 1
    → (if is_own then suc later else later) ≤ 1
once own from is_own later same past few = grind (arith, nat_tests)

count-once : (own from more : ℕ) → count (λ slot. own == slot) (numbers from more) ≤ 1
unfolding count
count-once own from zero = omega arith
count-once own from (suc more) = grind (arith, nat_tests, once, count, count-past, count-once own (suc from) more)

-- of some slots, no more are taken than there are rows
enough : (rows : List ThreadRow) (from more : ℕ) → length (numbers from more) ≤ count (is_free rows) (numbers from more) + length rows
enough [] from more = grind (arith, nat_tests, count-all, count-row, once, count-once)
enough (row ∷ rows) from more = grind (arith, nat_tests, count-all, count-row, once, count-once, enough rows)

-- the slot is the first of those numbers that passes the test
record Finds (test : ℕ → Bool) (from more slot : ℕ) : Type 0 where
  is : find test (numbers from more) ≡ Some slot
  passes : test slot ≡ true
  low : from ≤ slot
  high : slot < from + more

later : (test : ℕ → Bool) (from more slot : ℕ) → test from ≡ false → Finds test (suc from) more slot → Finds test from (suc more) slot
later test from more slot taken h =
    let low = h.low in
    let high = h.high in
    record { is = rw taken h.is; passes = h.passes; low = omega arith; high = omega arith }

-- where one passes, the first that passes is found
found : (test : ℕ → Bool) (from more : ℕ) → 0 < count test (numbers from more) → (slot : ℕ) × Finds test from more slot
unfolding count
found test from zero some = absurd (omega arith)
found test from (suc more) some =
    elim (cases_Bool (test from)) [
      | inl free ↦ (from, record { is = rw free refl; passes = free; low = omega arith; high = omega arith })
      | inr taken ↦ (let (slot, h) = found test (suc from) more (rw taken at some) in (slot, later test from more slot taken h))
    ]

-- with fewer than eight children a slot is free
pub free : (rows : List ThreadRow) → length rows < MAX_CHILDREN → (1 ≤ free_slot rows) × (free_slot rows ≤ MAX_CHILDREN) × (is_taken rows (free_slot rows) ≡ false)
unfolding free_slot
free rows few =
    let total = enough rows 1 MAX_CHILDREN in
    let eight = length-numbers 1 MAX_CHILDREN in
    let (slot, h) = found (is_free rows) 1 MAX_CHILDREN (omega arith) in
    let high = h.high in
    let found_is = h.is in
    rw found_is (h.low, omega arith, not-true (is_taken rows slot) h.passes)

-- Facts on lists, and on the lines of entries.
use Rattle.dk_ledger.proofs.Names.{◌≡◌, ◌∙◌, ap, refl, ◌<◌, ◌≤◌, ◌+◌, ◌-◌, ℕ, zero, suc, List, [], ◌∷◌, ◌++◌, length, arith, length-append, Some, None, flat_map, replicate, slice_get, AllByRecursion, length-replicate, replicate_more, HasLabel, HasOwnEvent, HasEntry, LedgerLine, Heading, entries_of, AreFilled, AreInTurn, AreApart, last_of, size_in, IsApart, nat_tests}

module _ {A : Type 0} (P : A → Type 0) where
  pub all_front : (xs ys : List A) → AllByRecursion P (xs ++ ys) → AllByRecursion P xs
  all_front [] ys h = tt
  all_front (x ∷ xs) ys h = (h.0, all_front xs ys h.1)

  pub all_back : (xs ys : List A) → AllByRecursion P (xs ++ ys) → AllByRecursion P ys
  all_back [] ys h = h
  all_back (x ∷ xs) ys h = all_back xs ys h.1

  pub all_both : (xs ys : List A) → AllByRecursion P xs → AllByRecursion P ys → AllByRecursion P (xs ++ ys)
  all_both [] ys h k = k
  all_both (x ∷ xs) ys h k = (h.0, all_both xs ys h.1 k)

  pub all_same : (x : A) → P x → (n : ℕ) → AllByRecursion P (replicate n x)
  all_same x h zero = tt
  all_same x h (suc n) = (h, all_same x h n)

pub get_front : {A : Type 0} (xs ys : List A) (i : ℕ) → i < length xs → slice_get (xs ++ ys) i ≡ slice_get xs i
get_front [] ys i l = absurd (omega arith)
get_front (x ∷ xs) ys zero l = refl
get_front (x ∷ xs) ys (suc i) l = get_front xs ys i (omega arith)

pub get_seam : {A : Type 0} (xs : List A) (y : A) (ys : List A) → slice_get (xs ++ y ∷ ys) (length xs) ≡ Some y
get_seam [] y ys = refl
get_seam (x ∷ xs) y ys = get_seam xs y ys

-- one more of an element that stands once less than a count says
pub next_turn : {A : Type 0} (x : A) (n : ℕ) → 1 ≤ n → replicate (n - 1) x ++ x ∷ [] ≡ replicate (n + 1 - 1) x
next_turn x n some = grind (arith, nat_tests, replicate_more)

-- a line that isn't empty has as many entries as it counts
pub length-entries : (l : LedgerLine) → 0 < l.count → length (entries_of l) ≡ l.count
length-entries l some =
    length-append (replicate (l.count - 1) (record { label = l.label; event = None })) (record { label = l.label; event = l.event } ∷ [])
    ∙ ap (λ n. n + 1) (length-replicate (l.count - 1) (record { label = l.label; event = None })) ∙ omega arith

-- a line that follows others starts behind their entries
pub starts_behind : (start : ℕ) (ls : List LedgerLine) (m : LedgerLine) (more : List LedgerLine) → AreFilled (ls ++ m ∷ more) → AreInTurn start (ls ++ m ∷ more)
    → m.start ≡ start + length (flat_map entries_of ls)
starts_behind start [] m more filled turn = turn.0 ∙ omega arith
starts_behind start (l ∷ ls) m more filled turn =
    let later = starts_behind (start + l.count) ls m more filled.1 turn.1 in
    let count = length-entries l filled.0 in
    let all = length-append (entries_of l) (flat_map entries_of ls) in
    omega (arith, later, count, all)

pub is_filled : (ls : List LedgerLine) (m : LedgerLine) (more : List LedgerLine) → AreFilled (ls ++ m ∷ more) → 0 < m.count
is_filled [] m more filled = filled.0
is_filled (l ∷ ls) m more filled = is_filled ls m more filled.1

pub stands_apart : (ls : List LedgerLine) (m : LedgerLine) (more : List LedgerLine) → AreApart (ls ++ m ∷ more) → IsApart (last_of ls) m
stands_apart [] m more apart = tt
stands_apart (l ∷ []) m more apart = apart.0
stands_apart (l ∷ k ∷ ls) m more apart = stands_apart (k ∷ ls) m more apart.1

pub record IsReadableLine (h : Heading) (l : LedgerLine) : Type 0 where
  pub label : HasLabel (size_in h) l.label
  pub event : HasOwnEvent (size_in h) l.label l.event
  pub short : l.start + l.count ≤ 10000000

-- the lines of entries that can be read
pub lines_readable : (h : Heading) (start : ℕ) (ls : List LedgerLine) → AreFilled ls → AreInTurn start ls → start + length (flat_map entries_of ls) ≤ 10000000
    → AllByRecursion (HasEntry (size_in h)) (flat_map entries_of ls) → AllByRecursion (IsReadableLine h) ls
lines_readable h start [] filled turn short all = tt
lines_readable h start (l ∷ ls) filled turn short all =
    let count = length-entries l filled.0 in
    let whole = length-append (entries_of l) (flat_map entries_of ls) in
    let begins = turn.0 in
    let own = all_front (HasEntry (size_in h)) (entries_of l) (flat_map entries_of ls) all in
    let last = (all_back (HasEntry (size_in h)) (replicate (l.count - 1) (record { label = l.label; event = None })) (record { label = l.label; event = l.event } ∷ []) own).0 in (
      record { label = last.label; event = last.event; short = omega (arith, begins, count, whole) },
      lines_readable h (start + l.count) ls filled.1 turn.1 (omega (arith, count, whole)) (all_back (HasEntry (size_in h)) (entries_of l) (flat_map entries_of ls) all),
    )

-- The lines of the entries and one line more, which starts behind them and can't be joined to the last.
pub filled_more : (ls : List LedgerLine) (l : LedgerLine) → AreFilled ls → 0 < l.count → AreFilled (ls ++ l ∷ [])
filled_more [] l filled some = (some, tt)
filled_more (k ∷ ls) l filled some = (filled.0, filled_more ls l filled.1 some)

pub in_turn_more : (start : ℕ) (ls : List LedgerLine) (l : LedgerLine) → AreFilled ls → AreInTurn start ls → l.start ≡ start + length (flat_map entries_of ls) → AreInTurn start (ls ++ l ∷ [])
in_turn_more start [] l filled turn begins = (begins ∙ omega arith, tt)
in_turn_more start (k ∷ ls) l filled turn begins =
    let count = length-entries k filled.0 in
    let whole = length-append (entries_of k) (flat_map entries_of ls) in
    (turn.0, in_turn_more (start + k.count) ls l filled.1 turn.1 (omega (arith, begins, count, whole)))

pub apart_more : (ls : List LedgerLine) (l : LedgerLine) → AreApart ls → IsApart (last_of ls) l → AreApart (ls ++ l ∷ [])
apart_more [] l apart last = tt
apart_more (k ∷ []) l apart last = (last, tt)
apart_more (k ∷ m ∷ ls) l apart last = (apart.0, apart_more (m ∷ ls) l apart.1 last)

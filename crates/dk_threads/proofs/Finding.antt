-- The rows that the table finds are those of the past's threads.
use Rattle.dk_threads.proofs.Names.{◌≡◌, ◌<◌, ◌≤◌, ◌+◌, ◌∙◌, inl, inr, ◌||◌, Bool, true, false, cond, eqb, ℕ, zero, suc, List, [], ◌∷◌, ◌++◌, length, map, Option, refl, ap, sym, arith, subst, is_none, slice_get, find, filter_map, is_some, filter, sum_by, list_any, flat_map, option_map_or, cases_lt, eqb-true, eqb-false, nat_tests, slice_get-map, slice_get_past, or-false, Configuration, numbers, ThreadId, Event, Entry, is_of, Thread, threads, family, after_entry, made_by, is_main, Has, filter_map-has, ThreadRow, is_row_of, started, kept, ends_at, Table, children_at, find_row, rows_of, AreFamilies, is_running, IsRecount, counted_rows, counted_row, has_row, is_there, row_at, unplaced, AreThreads, end_in_row}
use Rattle.std.proofs.Common.{◌⊎◌, Some, None, option_map}
use Rattle.std.proofs.lemmas.List.Sums.{sum_by-cons}
use Rattle.dk_trace.proofs.Loans.{is-lent}
use Rattle.dk_threads.proofs.NamedRows.{one-child, family-of, child-later}

unplaced-find : (x : ThreadId) (rows : List ThreadRow) → option_map unplaced (find (is_row_of x) rows) ≡ find (is_row_of x) (map unplaced rows)
unplaced-find x [] = refl
unplaced-find x (row ∷ rows) = grind (arith, nat_tests, unplaced-find x rows)

found-any : (x : ThreadId) (rows : List ThreadRow) → is_some (find (is_row_of x) rows) ≡ list_any (is_row_of x) rows
found-any x [] = refl
found-any x (row ∷ rows) = grind (arith, nat_tests, found-any x rows)

any-counted : (c : Configuration) (now : ℕ) (x : ThreadId) (ys : List Thread) → list_any (is_row_of x) (filter_map (row_at c now) ys) ≡ list_any (is_there c now x) ys
any-counted c now x [] = refl
any-counted c now x (y ∷ ys) = grind (arith, nat_tests, any-counted c now x ys)

pub rows-found : (c : Configuration) (now : ℕ) (past : List Entry) (table : Table) (x : ThreadId) → IsRecount c now past table → x.process < length c.processes
    → option_map unplaced (find_row table x) ≡ find (is_row_of x) (counted_rows c now past x.process)
rows-found c now past table x r known = unplaced-find x (rows_of table x.process) ∙ ap (find (is_row_of x)) (r.rows x.process known)

-- a process has its own threads alone
any-append : (test : Thread → Bool) (xs ys : List Thread) → list_any test (xs ++ ys) ≡ (list_any test xs || list_any test ys)
any-append test [] ys = refl
any-append test (x ∷ xs) ys = grind (arith, nat_tests, any-append test xs)

abbrev of_process : ℕ → Thread → Bool
of_process p y = eqb y.id.process p

abbrev AllOf : ℕ → List Thread → Type 0
AllOf p [] = Unit {0}
AllOf p (y ∷ ys) = (y.id.process ≡ p) × AllOf p ys

all-append : (p : ℕ) (xs ys : List Thread) → AllOf p xs → AllOf p ys → AllOf p (xs ++ ys)
all-append p [] ys a b = b
all-append p (x ∷ xs) ys a b = (a.0, all-append p xs ys a.1 b)

all-after : (p : ℕ) (e : Entry) (tick : ℕ) (xs : List Thread) → AllOf p xs → AllOf p (map (after_entry e tick) xs)
all-after p e tick [] a = tt
all-after p e tick (x ∷ xs) a = (a.0, all-after p e tick xs a.1)

all-made : (c : Configuration) (p tick : ℕ) (event : Option Event) → AllOf p (made_by c p tick event)
all-made c p tick (Some (Event.Create serial level quota)) = (refl, tt)
all-made c p tick (Some event) = tt
all-made c p tick None = tt

family-own : (c : Configuration) (p : ℕ) (past : List Entry) → AllOf p (family c p past)
family-own c p [] = (refl, tt)
family-own c p (e ∷ past) =
    all-append p (map (after_entry e (length past)) (family c p past)) _ (all-after p e (length past) (family c p past) (family-own c p past))
    (by (is_of (record { process = p; serial = 0 }) e))
  where
    by : (b : Bool) → AllOf p (cond b (made_by c p (length past) e.event) [])
    by true = all-made c p (length past) e.event
    by false = tt

none-there : (c : Configuration) (now : ℕ) (x : ThreadId) (q : ℕ) (ys : List Thread) → AllOf q ys → (q ≡ x.process → ⊥) → list_any (is_there c now x) ys ≡ false
none-there c now x q [] all apart = refl
none-there c now x q (y ∷ ys) all apart = grind (arith, nat_tests, none-there c now x q ys)

outside-there : (c : Configuration) (now : ℕ) (past : List Entry) (x : ThreadId) (low n : ℕ) → (x.process < low) ⊎ (low + n ≤ x.process)
    → list_any (is_there c now x) (flat_map (λ q. family c q past) (numbers low n)) ≡ false
outside-there c now past x low zero out = refl
outside-there c now past x low (suc n) out = grind (arith, nat_tests, any-append, none-there, family-own, outside-there c now past x (suc low) n)

inside-there : (c : Configuration) (now : ℕ) (past : List Entry) (x : ThreadId) (low n : ℕ) → low ≤ x.process → x.process < low + n
    → list_any (is_there c now x) (flat_map (λ q. family c q past) (numbers low n)) ≡ list_any (is_there c now x) (family c x.process past)
inside-there c now past x low zero from to = absurd (omega arith)
inside-there c now past x low (suc n) from to = grind (arith, nat_tests, any-append, eqb-true, outside-there, or-false, eqb-false, none-there, family-own, inside-there c now past x (suc low) n)

pub rows-there : (c : Configuration) (now : ℕ) (past : List Entry) (table : Table) (x : ThreadId) → IsRecount c now past table
    → is_some (find_row table x) ≡ list_any (is_there c now x) (threads c past)
rows-there c now past table x r =
    elim (cases_lt x.process (length c.processes)) [
      | inl known ↦
          mapped (find_row table x)
          ∙ ap (λ o. is_some o) (rows-found c now past table x r known)
          ∙ found-any x (counted_rows c now past x.process)
          ∙ any-counted c now x (family c x.process past)
          ∙ sym (inside-there c now past x 0 (length c.processes) (omega arith) (omega arith))
      | inr past' ↦ grind (arith, nat_tests, slice_get_past, outside-there)
    ]
  where
    mapped : (o : Option ThreadRow) → is_some o ≡ is_some (option_map unplaced o)
    mapped None = refl
    mapped (Some row) = refl

pub rows-child : (c : Configuration) (now : ℕ) (past : List Entry) (table : Table) (p i : ℕ) → IsRecount c now past table → p < length c.processes
    → option_map unplaced (slice_get (children_at table p) i) ≡ slice_get (counted_rows c now past p) (suc i)
rows-child c now past table p i r known = grind (arith, nat_tests, slice_get-map)

pub rows-lent : (c : Configuration) (now : ℕ) (kids : List Thread) → ((y : Thread) → Has kids y → is_main y ≡ false)
    → length (filter_map (row_at c now) kids) ≡ length (filter (is-lent c now) kids)
rows-lent c now [] children = refl
rows-lent c now (y ∷ kids) children = grind (arith, nat_tests, rows-lent c now kids)

-- a row of the table is that of a thread
pub row-of-thread : (c : Configuration) (now : ℕ) (all : List Entry) (t : Table) (p : ℕ) (row : ThreadRow) → AreThreads c now all t → p < length c.processes → Has (rows_of t p) row
    → (x : Thread) × Has (family c p all) x × (has_row c now x ≡ true) × (unplaced row ≡ counted_row c now x)
row-of-thread c now all t p row is known h =
    let r = filter_map-has (row_at c now) (family c p all) (unplaced row)
    (subst (λ rows. Has rows (unplaced row)) (is.rows p known) (mapped (rows_of t p) h)) in
    let s = split (has_row c now r.0) r.0 r.2 in
    (r.0, r.1, s.0, sym s.1)
  where
    mapped : (rows : List ThreadRow) → Has rows row → Has (map unplaced rows) (unplaced row)
    mapped [] k = absurd k
    mapped (z ∷ rows) (inl e) = inl (ap unplaced e)
    mapped (z ∷ rows) (inr k) = inr (mapped rows k)

    split : (on : Bool) (x : Thread) → cond on (Some (counted_row c now x)) None ≡ Some (unplaced row) → (on ≡ true) × (counted_row c now x ≡ unplaced row)
    split true x e = (refl, cc)
    split false x e = absurd (cc)

-- the children that are left are found as before
pub find-left : (now : ℕ) (i : ThreadId) (rows : List ThreadRow) (row : ThreadRow) → find (is_row_of i) rows ≡ Some row → ends_at now row ≡ false
    → find (is_row_of i) (map (started now) (filter_map (kept now) rows)) ≡ Some (started now row)
find-left now i [] row found lasts = absurd (cc)
find-left now i (z ∷ rows) row found lasts = grind (arith, nat_tests, find-left now i rows)

-- a thread that has a row at the next tick had one before
pub row-before : (c : Configuration) (was now : ℕ) (x : Thread) → was ≤ now → has_row c now x ≡ true → has_row c was x ≡ true
row-before c was now x le h = grind (arith, nat_tests)

-- and its row doesn't end then
pub row-lasts : (c : Configuration) (now : ℕ) (x : Thread) → has_row c now x ≡ true → option_map_or (λ tick. eqb tick now) (end_in_row c x) false ≡ false
row-lasts c now x h = grind (arith, nat_tests)

pub rows-apart : (t : Table) (p : ℕ) (q r : ThreadRow) → AreFamilies t.levels t.families → Has (rows_of t p) q → Has (rows_of t p) r → q.id ≡ r.id → q ≡ r
rows-apart t p q r are one two same = grind (arith, nat_tests, family-of, child-later, one-child)

-- who hasn't been stopped has a row
pub running-row : (c : Configuration) (now : ℕ) (x : Thread) → x.stop ≡ None → has_row c now x ≡ true
running-row c now x runs = grind (arith, nat_tests)

pub row-was : (c : Configuration) (e : Entry) (now tick : ℕ) (x : Thread) → has_row c now (after_entry e tick x) ≡ true → has_row c now x ≡ true
row-was c e now tick x there = grind (arith, nat_tests)

-- the thread of a row
pub record RowOf (c : Configuration) (past : List Entry) (row : ThreadRow) (x : Thread) : Type 0 where
  pub process : x.id.process < length c.processes
  pub family : Has (family c x.id.process past) x
  pub there : has_row c (length past) x ≡ true
  pub counted : counted_row c (length past) x ≡ unplaced row
  pub id : x.id ≡ row.id
  pub level : x.level ≡ row.level

pub row-says : (c : Configuration) (now : ℕ) (row : ThreadRow) (y : Thread) → row_at c now y ≡ Some (unplaced row) → (has_row c now y ≡ true) × (counted_row c now y ≡ unplaced row)
row-says c now row y at = grind (arith, nat_tests)

-- whether a row's thread runs
pub row-runs : (c : Configuration) (past : List Entry) (row : ThreadRow) (x : Thread) → RowOf c past row x → is_running row ≡ is_none x.stop
row-runs c past row x of = grind (arith, nat_tests)

-- the sum over rows is that over the threads that they are of
pub paired-sum : (c : Configuration) (now : ℕ) (f : ThreadRow → ℕ) (g : Thread → ℕ) (rows : List ThreadRow) (xs : List Thread)
    → map unplaced rows ≡ map (counted_row c now) xs
    → ((r : ThreadRow) (x : Thread) → Has rows r → Has xs x → counted_row c now x ≡ unplaced r → f r ≡ g x) → sum_by f rows ≡ sum_by g xs
paired-sum c now f g [] [] paired same = refl
paired-sum c now f g [] (x ∷ xs) paired same = absurd (cc)
paired-sum c now f g (r ∷ rows) [] paired same = absurd (cc)
paired-sum c now f g (r ∷ rows) (x ∷ xs) paired same = grind (arith, nat_tests, sum_by-cons, paired-sum c now f g rows xs)

-- the rows of a process that run are those of its threads that run
pub running-rows : (c : Configuration) (now : ℕ) (xs : List Thread) → filter is_running (filter_map (row_at c now) xs) ≡ map (counted_row c now) (filter (λ x. is_none x.stop) xs)
running-rows c now [] = refl
running-rows c now (x ∷ xs) = grind (arith, nat_tests, running-rows c now xs)

pub unplaced-running : (rows : List ThreadRow) → map unplaced (filter is_running rows) ≡ filter is_running (map unplaced rows)
unplaced-running [] = refl
unplaced-running (r ∷ rows) = grind (arith, nat_tests, unplaced-running rows)

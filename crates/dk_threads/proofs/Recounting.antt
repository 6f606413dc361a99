-- How the recount of a past goes on with one entry, and with one tick.
use Rattle.dk_threads.proofs.Names.{◌≢◌, ◌≡◌, ◌<◌, ◌∙◌, ◌==◌, ℕ, suc, Bool, true, false, List, [], ◌∷◌, length, map, refl, ap, arith, Some, None, if◌then◌else◌, filter_map, slice_get, option_map, cons_option, range_with_len, option_map_or, nat_tests, slice_get-map, slice_get-get_or, append-nil, length-map, length-map-range_with_len, get_or-map-range_with_len, Configuration, ThreadId, Event, Entry, without_event, stops, Thread, family, after_entry, made_by, ThreadRow, Family, is_starting, started, kept, ends_at, Table, IsFamily, AreFamilies, table_at_start, first_family, rows_of, changed_all, family_started, family_ended, IsRecount, IsOpen, IsBooked, row_at, unplaced, leaves_threads}
use Rattle.std.specs.Prelude.{Option}

-- the family of a process at the start
pub first-at : (c : Configuration) (p : ℕ) → p < length c.processes → slice_get (table_at_start c).families p ≡ Some (first_family c p)
first-at c p below =
    let n = length c.processes in
    let long : length (map (first_family c) (range_with_len 0 n)) ≡ n = length-map-range_with_len (first_family c) 0 n in
    let within : p < length (map (first_family c) (range_with_len 0 n)) = omega arith in
    slice_get-get_or (map (first_family c) (range_with_len 0 n)) p (first_family c p) within
    ∙ ap Some (get_or-map-range_with_len (first_family c) 0 n p p (first_family c p) below (omega arith))

pub IsOpen-first : (c : Configuration) → IsOpen c [] (table_at_start c)
IsOpen-first c = grind (arith, nat_tests, length-map-range_with_len, first-at)

makes-none : (c : Configuration) (p tick : ℕ) (event : Option Event) → leaves_threads event ≡ true → made_by c p tick event ≡ []
makes-none c p tick event quiet = grind (arith, nat_tests)

pub if-none : (b : Bool) (xs : List Thread) → xs ≡ [] → (if b then xs else []) ≡ []
if-none b xs none = grind (arith, nat_tests)

pub same-thread : (e : Entry) (tick : ℕ) (x : Thread) → stops x.id e ≡ false → after_entry e tick x ≡ x
same-thread e tick x none = grind (arith, nat_tests)

same-threads : (e : Entry) (tick : ℕ) (xs : List Thread) → leaves_threads e.event ≡ true → map (after_entry e tick) xs ≡ xs
same-threads e tick [] quiet = refl
same-threads e tick (x ∷ xs) quiet = grind (arith, nat_tests, same-threads e tick xs)

-- such an entry leaves all threads
pub family-same : (c : Configuration) (p : ℕ) (e : Entry) (past : List Entry) → leaves_threads e.event ≡ true → family c p (e ∷ past) ≡ family c p past
family-same c p e past quiet = grind (arith, nat_tests, if-none, makes-none, append-nil, same-threads)

-- where the threads of the past are the same, so is the recount
recount-same : (c : Configuration) (tick : ℕ) (before after : List Entry) (table : Table)
    → ((p : ℕ) → family c p after ≡ family c p before) → IsRecount c tick before table → IsRecount c tick after table
recount-same c tick before after table same is = grind (arith, nat_tests)

pub charged : (c : Configuration) (e : Entry) (past : List Entry) (table : Table) → IsOpen c past table → IsRecount c (length past) (without_event e ∷ past) table
charged c e past table is = recount-same c (length past) past (without_event e ∷ past) table (λ p. family-same c p (without_event e) past refl) is

pub booked : (c : Configuration) (e : Entry) (past : List Entry) (table : Table) → leaves_threads e.event ≡ true
    → IsRecount c (length past) (without_event e ∷ past) table → IsBooked c e past table
booked c e past table quiet is = grind (arith, nat_tests)

-- what becomes of a row at the opening of the tick
due : ℕ → ThreadRow → Option ThreadRow
due now row = option_map (started now) (kept now row)

then_due : ℕ → Option ThreadRow → Option ThreadRow
then_due now None = None
then_due now (Some row) = due now row

pub eq-true : (a b : ℕ) → (a == b) ≡ true → a ≡ b
eq-true a b h = grind (arith, nat_tests)

pub eq-false : (a b : ℕ) → (a == b) ≡ false → a ≢ b
eq-false a b h = grind (arith, nat_tests)

-- a row of a thread with these parts
abbrev pub thread : ThreadId → ℕ → ℕ → ℕ → Option ℕ → Thread
thread id level quota start stop = record { id = id; level = level; quota = quota; start = start; stop = stop }

running-next : (c : Configuration) (t : ℕ) (id : ThreadId) (level quota start : ℕ) (main : Bool) → (id.serial == 0) ≡ main
    → then_due (suc t) (row_at c t (thread id level quota start None)) ≡ row_at c (suc t) (thread id level quota start None)
unfolding then_due due
running-next c t id level quota start main is = grind (arith, nat_tests)

stopped-next : (c : Configuration) (t : ℕ) (id : ThreadId) (level quota start stop : ℕ) (main : Bool) → (id.serial == 0) ≡ main
    → then_due (suc t) (row_at c t (thread id level quota start (Some stop))) ≡ row_at c (suc t) (thread id level quota start (Some stop))
unfolding then_due due
stopped-next c t id level quota start stop main is = grind (arith, nat_tests)

next : (c : Configuration) (t : ℕ) (id : ThreadId) (level quota start : ℕ) (stop : Option ℕ)
    → then_due (suc t) (row_at c t (thread id level quota start stop)) ≡ row_at c (suc t) (thread id level quota start stop)
next c t id level quota start None = running-next c t id level quota start (id.serial == 0) refl
next c t id level quota start (Some stop) = stopped-next c t id level quota start stop (id.serial == 0) refl

cons-due : (now : ℕ) (o : Option ThreadRow) (rows : List ThreadRow) → filter_map (due now) (cons_option o rows) ≡ cons_option (then_due now o) (filter_map (due now) rows)
unfolding then_due
cons-due now o rows = grind (arith, nat_tests)

-- the rows of the threads at the next tick
rows-next : (c : Configuration) (t : ℕ) (xs : List Thread) → filter_map (due (suc t)) (filter_map (row_at c t) xs) ≡ filter_map (row_at c (suc t)) xs
rows-next c t [] = refl
rows-next c t (x ∷ xs) =
    cons-due (suc t) (row_at c t x) (filter_map (row_at c t) xs)
    ∙ ap (λ (o : Option ThreadRow). cons_option o (filter_map (due (suc t)) (filter_map (row_at c t) xs))) (next c t x.id x.level x.quota x.start x.stop)
    ∙ ap (cons_option (row_at c (suc t) x)) (rows-next c t xs)

unplaced-due : (now : ℕ) (row : ThreadRow) (is_now : Bool) → ends_at now row ≡ is_now → option_map unplaced (due now row) ≡ due now (unplaced row)
unfolding due
unplaced-due now row is_now is = grind (arith, nat_tests)

pub map-cons : (o : Option ThreadRow) (rows : List ThreadRow) → map unplaced (cons_option o rows) ≡ cons_option (option_map unplaced o) (map unplaced rows)
map-cons o rows = grind (arith, nat_tests)

unplaced-rows : (now : ℕ) (rows : List ThreadRow) → map unplaced (filter_map (due now) rows) ≡ filter_map (due now) (map unplaced rows)
unplaced-rows now [] = refl
unplaced-rows now (row ∷ rows) = grind (arith, nat_tests, map-cons, due, unplaced-due, unplaced-rows now rows)

children-next : (now : ℕ) (rows : List ThreadRow) → map (started now) (filter_map (kept now) rows) ≡ filter_map (due now) rows
unfolding due
children-next now [] = refl
children-next now (row ∷ rows) = grind (arith, nat_tests, children-next now rows)

main-next : (now : ℕ) (main : ThreadRow) → main.end ≡ None → is_starting main.state ≡ false → due now main ≡ Some main
unfolding due
main-next now main none live = rw (none, live) refl

-- the family of a process, if it has one, after the opening of the tick
opened : ℕ → Option Family → Option Family
opened now o = option_map (family_started now) (option_map (family_ended now) o)

opened-rows : (now levels : ℕ) (o : Option Family) → ((family : Family) → o ≡ Some family → IsFamily levels family)
    → option_map_or (λ (x : Family). x.main ∷ x.children) (opened now o) [] ≡ filter_map (due now) (option_map_or (λ (x : Family). x.main ∷ x.children) o [])
unfolding opened
opened-rows now levels o is = grind (arith, nat_tests, main-next, children-next)

opened-most : (now : ℕ) (o : Option Family) → option_map_or (λ (x : Family). x.most) (opened now o) 0 ≡ option_map_or (λ (x : Family). x.most) o 0
unfolding opened
opened-most now o = grind (arith, nat_tests)

opened-serials : (now : ℕ) (o : Option Family) → option_map_or (λ (x : Family). x.serials) (opened now o) 0 ≡ option_map_or (λ (x : Family). x.serials) o 0
unfolding opened
opened-serials now o = grind (arith, nat_tests)

opened-at : (now p : ℕ) (table : Table) → slice_get (map (family_started now) (map (family_ended now) table.families)) p ≡ opened now (slice_get table.families p)
unfolding opened
opened-at now p table = grind (arith, nat_tests, slice_get-map)

opened-length : (now : ℕ) (families : List Family) → length (map (family_started now) (map (family_ended now) families)) ≡ length families
opened-length now families = simp length-map refl

-- a closed tick's table, once the next tick is open
pub next-open : (c : Configuration) (e : Entry) (past : List Entry) (table : Table) → AreFamilies table.levels table.families → IsBooked c e past table
    → IsOpen c (e ∷ past) (changed_all (family_started (suc (length past))) (changed_all (family_ended (suc (length past))) table))
next-open c e past table all is =
    let now = suc (length past) in
    record {
      levels = is.levels;
      processes = opened-length now table.families ∙ is.processes;
      most = grind (arith, nat_tests, opened-at, opened-most);
      rows = λ p below.
          ap (λ (o : Option Family). map unplaced (option_map_or (λ (x : Family). x.main ∷ x.children) o [])) (opened-at now p table)
          ∙ ap (map unplaced) (opened-rows now table.levels (slice_get table.families p) (λ family at. all p family at))
          ∙ unplaced-rows now (rows_of table p)
          ∙ ap (filter_map (due now)) (is.rows p below)
          ∙ rows-next c (length past) (family c p (e ∷ past));
      serials = grind (arith, nat_tests, opened-at, opened-serials);
    }

-- How the recount goes on where a child is stopped, or a main with its children.
use Rattle.dk_threads.proofs.Names.{◌≡◌, ◌≢◌, ◌<◌, ◌≤◌, ◌∙◌, ◌==◌, ◌++◌, ℕ, suc, ◌+◌, Bool, true, false, List, [], ◌∷◌, length, map, refl, ap, sym, subst, arith, inl, inr, ◌*◌, Some, None, nat_lt, nat_le, if◌then◌else◌, filter_map, find, slice_get, option_map, cons_option, list_any, option_map_or, option_or, nat_tests, append-nil, and-false, or-false, not-true, cases_Bool, and_parts, true≢false, Configuration, IsChecked, window_end, Clock, clock_at, end_at, ThreadId, Label, Event, Entry, without_event, stops, is_of, is_same, is_end, main_of, thread_of, has_event, quiet, Thread, family, after_entry, made_by, State, ThreadRow, Family, is_row_of, is_stopped, stopped, stopped_child, stopped_with_main, AreChildren, Table, IsFamily, AreFamilies, changed_at, child_stopped, all_stopped, runs, is_running, IsCharged, IsBooked, counted_rows, counted_row, row_at, unplaced, has_row, state_of, main_id, entry_of, IsRecount}
use Rattle.std.specs.Prelude.{Option, ◌||◌}
use Rattle.std.specs.Bool.{then_some}
use Rattle.std.proofs.lemmas.List.{length-append}
use Rattle.dk_trace.proofs.Whose.{of-thread as thread-is}
use Rattle.dk_threads.specs.Laws.{MainsEndStopsRows}
use Rattle.dk_threads.proofs.Recounting.{family-same, same-thread, eq-true, thread, if-none}
use Rattle.dk_threads.proofs.Births.{some-at, rows_in, serials_in, recount-changed, ends-later}

-- what becomes of a row that may be absent
onward : (ThreadRow → Option ThreadRow) → Option ThreadRow → Option ThreadRow
onward f None = None
onward f (Some row) = f row

-- each row, and each thread, has the property
abbrev Each : (ThreadRow → Type 0) → List ThreadRow → Type 0
Each P [] = Unit {0}
Each P (row ∷ rows) = P row × Each P rows

abbrev EachThread : (Thread → Type 0) → List Thread → Type 0
EachThread P [] = Unit {0}
EachThread P (x ∷ xs) = P x × EachThread P xs

each-cons : (P : ThreadRow → Type 0) (o : Option ThreadRow) (rows : List ThreadRow) → Each P (cons_option o rows)
    → ((row : ThreadRow) → o ≡ Some row → P row) × Each P rows
each-cons P o rows h = grind (arith, nat_tests)

filter-cons : (f : ThreadRow → Option ThreadRow) (o : Option ThreadRow) (rows : List ThreadRow)
    → filter_map f (cons_option o rows) ≡ cons_option (onward f o) (filter_map f rows)
unfolding onward
filter-cons f o rows = grind (arith, nat_tests)

-- where each thread's row becomes what the change makes of it, so do all
rows-after : (c : Configuration) (tick : ℕ) (f : ThreadRow → Option ThreadRow) (P : ThreadRow → Type 0) (R : Thread → Type 0) (next : Thread → Thread)
    → ((x : Thread) → R x → ((row : ThreadRow) → row_at c tick x ≡ Some row → P row) → row_at c tick (next x) ≡ onward f (row_at c tick x))
    → (xs : List Thread) → EachThread R xs → Each P (filter_map (row_at c tick) xs)
    → filter_map (row_at c tick) (map next xs) ≡ filter_map f (filter_map (row_at c tick) xs)
rows-after c tick f P R next one [] all rows = refl
rows-after c tick f P R next one (x ∷ xs) all rows = grind (arith, nat_tests, each-cons, onward, filter-cons, rows-after c tick f P R next one xs)

unplaced-all : (f : ThreadRow → Option ThreadRow) → ((row : ThreadRow) → option_map unplaced (f row) ≡ f (unplaced row)) → (rows : List ThreadRow)
    → map unplaced (filter_map f rows) ≡ filter_map f (map unplaced rows)
unplaced-all f one [] = refl
unplaced-all f one (row ∷ rows) = grind (arith, nat_tests, unplaced-all f one rows)

-- all threads of a family are of its process
made-process : (c : Configuration) (p tick : ℕ) (event : Option Event) → EachThread (λ x. x.id.process ≡ p) (made_by c p tick event)
made-process c p tick event = grind (arith, nat_tests)

each-if : (P : Thread → Type 0) (b : Bool) (xs : List Thread) → EachThread P xs → EachThread P (if b then xs else [])
each-if P true xs h = h
each-if P false xs h = tt

each-append : (P : Thread → Type 0) (xs ys : List Thread) → EachThread P xs → EachThread P ys → EachThread P (xs ++ ys)
each-append P [] ys h k = k
each-append P (x ∷ xs) ys h k = (h.0, each-append P xs ys h.1 k)

each-after : (p tick : ℕ) (e : Entry) (xs : List Thread) → EachThread (λ x. x.id.process ≡ p) xs → EachThread (λ x. x.id.process ≡ p) (map (after_entry e tick) xs)
each-after p tick e [] h = tt
each-after p tick e (x ∷ xs) h = (h.0, each-after p tick e xs h.1)

family-process : (c : Configuration) (p : ℕ) (past : List Entry) → EachThread (λ x. x.id.process ≡ p) (family c p past)
family-process c p [] = (refl, tt)
family-process c p (e ∷ past) = grind (arith, nat_tests, each-append, each-after, each-if, made-process, family-process c p past)

-- threads that the entry doesn't stop stay
untouched : (q tick : ℕ) (e : Entry) (xs : List Thread) → ((x : ThreadId) → x.process ≡ q → stops x e ≡ false) → EachThread (λ x. x.id.process ≡ q) xs
    → map (after_entry e tick) xs ≡ xs
untouched q tick e [] none all = refl
untouched q tick e (x ∷ xs) none all = grind (arith, nat_tests, untouched q tick e xs)

-- where nobody is made, the family is the one before with the threads that stop
family-after : (c : Configuration) (q : ℕ) (e : Entry) (past : List Entry) → made_by c q (length past) e.event ≡ []
    → family c q (e ∷ past) ≡ map (after_entry e (length past)) (family c q past)
family-after c q e past none = grind (arith, nat_tests, if-none, append-nil)

length-map-threads : (f : Thread → Thread) (xs : List Thread) → length (map f xs) ≡ length xs
length-map-threads f [] = refl
length-map-threads f (x ∷ xs) = ap suc (length-map-threads f xs)

each-unplaced : (P : ThreadRow → Type 0) → ((row : ThreadRow) → P row → P (unplaced row)) → (rows : List ThreadRow) → Each P rows → Each P (map unplaced rows)
each-unplaced P one [] h = tt
each-unplaced P one (row ∷ rows) h = (one row h.0, each-unplaced P one rows h.1)

-- The recount where one family's rows change so, and its threads so.
stop-recount : (c : Configuration) (e : Entry) (past : List Entry) (table : Table) (p : ℕ) (change : Family → Family) (old : Family)
    (f : ThreadRow → Option ThreadRow) (P : ThreadRow → Type 0)
    → slice_get table.families p ≡ Some old → p < length c.processes
    → ((q : ℕ) → made_by c q (length past) e.event ≡ [])
    → ((x : ThreadId) → x.process ≢ p → stops x e ≡ false)
    → (change old).most ≡ old.most → (change old).serials ≡ old.serials
    → (change old).main ∷ (change old).children ≡ filter_map f (old.main ∷ old.children)
    → ((row : ThreadRow) → option_map unplaced (f row) ≡ f (unplaced row))
    → ((row : ThreadRow) → P row → P (unplaced row))
    → Each P (old.main ∷ old.children)
    → ((x : Thread) → x.id.process ≡ p → ((row : ThreadRow) → row_at c (length past) x ≡ Some row → P row)
    → row_at c (length past) (after_entry e (length past) x) ≡ onward f (row_at c (length past) x))
    → IsCharged c e past table → IsBooked c e past (changed_at change p table)
stop-recount c e past table p change old f P at known none apart most serials rows commutes keeps each one is =
    let tick = length past in
    let before : (q : ℕ) → family c q (without_event e ∷ past) ≡ family c q past = λ q. family-same c q (without_event e) past refl in
    let others : (q : ℕ) → q ≢ p → family c q (e ∷ past) ≡ family c q (without_event e ∷ past) =
    λ q other.
    family-after c q e past (none q)
    ∙ untouched q tick e (family c q past) (λ x of. apart x (λ (same : x.process ≡ p). other (sym of ∙ same))) (family-process c q past)
    ∙ sym (before q) in
    let here : family c p (e ∷ past) ≡ map (after_entry e tick) (family c p past) = family-after c p e past (none p) in
    let rows_before : map unplaced (old.main ∷ old.children) ≡ counted_rows c tick past p =
    sym (ap (λ (o : Option Family). map unplaced (rows_in o)) at) ∙ is.rows p known ∙ ap (filter_map (row_at c tick)) (before p) in
    let each_counted : Each P (counted_rows c tick past p) =
    subst (Each P) rows_before (each-unplaced P keeps (old.main ∷ old.children) each) in
    let rows_now : map unplaced ((change old).main ∷ (change old).children) ≡ counted_rows c tick (e ∷ past) p =
    ap (map unplaced) rows
    ∙ unplaced-all f commutes (old.main ∷ old.children)
    ∙ ap (filter_map f) rows_before
    ∙ sym (rows-after c tick f P (λ x. x.id.process ≡ p) (after_entry e tick) one (family c p past) (family-process c p past) each_counted)
    ∙ ap (filter_map (row_at c tick)) (sym here) in
    let serials_now : (change old).serials + 1 ≡ length (family c p (e ∷ past)) =
    ap (λ (n : ℕ). n + 1) serials
    ∙ sym (ap (λ (o : Option Family). serials_in o + 1) at)
    ∙ is.serials p known
    ∙ ap length (before p)
    ∙ sym (length-map-threads (after_entry e tick) (family c p past))
    ∙ ap length (sym here) in
    recount-changed c tick (without_event e ∷ past) (e ∷ past) table p change old at others most serials_now rows_now is known

onward-keep : (f : ThreadRow → Option ThreadRow) (o : Option ThreadRow) → ((row : ThreadRow) → o ≡ Some row → f row ≡ Some row) → onward f o ≡ o
unfolding onward
onward-keep f o h = grind (arith, nat_tests)

onward-same : (f g : ThreadRow → Option ThreadRow) (o : Option ThreadRow) → ((row : ThreadRow) → o ≡ Some row → f row ≡ g row) → onward f o ≡ onward g o
unfolding onward
onward-same f g o h = grind (arith, nat_tests)

from-if : (b : Bool) (made row : ThreadRow) → (if b then Some made else None) ≡ Some row → row ≡ made
from-if b made row h = grind (arith, nat_tests)

row-id : (c : Configuration) (tick : ℕ) (x : Thread) (row : ThreadRow) → row_at c tick x ≡ Some row → row.id ≡ x.id
row-id c tick x row h = ap (λ (r : ThreadRow). r.id) (from-if (has_row c tick x) _ row h)

row-level : (c : Configuration) (tick : ℕ) (x : Thread) (row : ThreadRow) → row_at c tick x ≡ Some row → row.level ≡ x.level
row-level c tick x row h = ap (λ (r : ThreadRow). r.level) (from-if (has_row c tick x) _ row h)

row-state : (c : Configuration) (tick : ℕ) (x : Thread) (row : ThreadRow) → row_at c tick x ≡ Some row → row.state ≡ state_of tick x
row-state c tick x row h = ap (λ (r : ThreadRow). r.state) (from-if (has_row c tick x) _ row h)

-- a thread that wasn't stopped has a row
some-row : (c : Configuration) (tick : ℕ) (id : ThreadId) (level quota start : ℕ) (main : Bool) → (id.serial == 0) ≡ main
    → (row : ThreadRow) × (row_at c tick (thread id level quota start None) ≡ Some row)
some-row c tick id level quota start true is = (counted_row c tick (thread id level quota start None), rw is refl)
some-row c tick id level quota start false is = (counted_row c tick (thread id level quota start None), rw is refl)

-- a child that wasn't stopped, and is now
stop-row : (c : Configuration) (tick : ℕ) (id : ThreadId) (level quota start : ℕ) (later : Bool) → (id.serial == 0) ≡ false
    → nat_lt tick start ≡ later → nat_le (window_end c level tick) tick ≡ false → end_at (clock_at c tick) level ≡ window_end c level tick
    → row_at c tick (thread id level quota start (Some tick)) ≡ onward (stopped (clock_at c tick)) (row_at c tick (thread id level quota start None))
unfolding onward
stop-row c tick id level quota start later child is unpassed ends = grind (arith, nat_tests)

running-state : (tick start : ℕ) (later : Bool) → nat_lt tick start ≡ later
    → is_stopped (if later then State.Starting else State.Live) ≡ false
running-state tick start later is = grind (arith, nat_tests)

not-passed : (tick end : ℕ) → tick < end → nat_le end tick ≡ false
not-passed tick end later = grind (arith, nat_tests)

-- what stopping a process does to a row
abbrev gone : Clock → ThreadRow → Option ThreadRow
gone clock row = if row.id.serial == 0 then Some (record row { state = State.Stopped }) else stopped_with_main clock row

main-gone : (c : Configuration) (tick : ℕ) (id : ThreadId) (level quota start : ℕ) (stop : Option ℕ) → (id.serial == 0) ≡ true
    → row_at c tick (thread id level quota start (option_or stop (Some tick))) ≡ onward (gone (clock_at c tick)) (row_at c tick (thread id level quota start stop))
unfolding onward
main-gone c tick id level quota start stop is = grind (arith, nat_tests)

gone-running : (clock : Clock) (row : ThreadRow) → (row.id.serial == 0) ≡ false → is_stopped row.state ≡ false → gone clock row ≡ stopped clock row
gone-running clock row child running = rw (child, running) refl

gone-stopped : (clock : Clock) (row : ThreadRow) → (row.id.serial == 0) ≡ false → is_stopped row.state ≡ true → gone clock row ≡ Some row
gone-stopped clock row child is = rw (child, is) refl

child-gone : (c : Configuration) (tick : ℕ) (id : ThreadId) (level quota start : ℕ) (stop : Option ℕ) → (id.serial == 0) ≡ false
    → ((row : ThreadRow) → row_at c tick (thread id level quota start stop) ≡ Some row → row.level < length c.levels)
    → ((i : ℕ) → i < length c.levels → tick < window_end c i tick) → ((i : ℕ) → end_at (clock_at c tick) i ≡ window_end c i tick)
    → row_at c tick (thread id level quota start (option_or stop (Some tick))) ≡ onward (gone (clock_at c tick)) (row_at c tick (thread id level quota start stop))
child-gone c tick id level quota start None child known later ends =
    let x = thread id level quota start None in
    let (first, at) = some-row c tick id level quota start (id.serial == 0) refl in
    let level_known : level < length c.levels = subst (λ (n : ℕ). n < length c.levels) (row-level c tick x first at) (known first at) in
    let after : tick < window_end c level tick = later level level_known in
    let unpassed : nat_le (window_end c level tick) tick ≡ false = not-passed tick (window_end c level tick) after in
    stop-row c tick id level quota start (nat_lt tick start) child refl unpassed (ends level)
    ∙ sym (onward-same (gone (clock_at c tick)) (stopped (clock_at c tick)) (row_at c tick x)
    (λ row is. gone-running (clock_at c tick) row (ap (λ (i : ThreadId). i.serial == 0) (row-id c tick x row is) ∙ child)
    (ap is_stopped (row-state c tick x row is) ∙ running-state tick start (nat_lt tick start) refl)))
child-gone c tick id level quota start (Some n) child known later ends = grind (arith, nat_tests, thread, onward-keep, gone-stopped, row-id, row-state)

-- the rows of a process that stops
thread-gone : (c : Configuration) (e : Entry) (tick : ℕ) (x : Thread) → stops x.id e ≡ true
    → ((row : ThreadRow) → row_at c tick x ≡ Some row → (row.id.serial == 0) ≡ false → row.level < length c.levels)
    → ((i : ℕ) → i < length c.levels → tick < window_end c i tick) → ((i : ℕ) → end_at (clock_at c tick) i ≡ window_end c i tick)
    → row_at c tick (after_entry e tick x) ≡ onward (gone (clock_at c tick)) (row_at c tick x)
thread-gone c e tick x hit known later ends =
    ap (λ (b : Bool). row_at c tick (thread x.id x.level x.quota x.start (option_or x.stop (then_some b tick)))) hit
    ∙ elim (cases_Bool (x.id.serial == 0)) [
      | inl main ↦ main-gone c tick x.id x.level x.quota x.start x.stop main
      | inr child ↦ child-gone c tick x.id x.level x.quota x.start x.stop child
          (λ row is. known row is (ap (λ (i : ThreadId). i.serial == 0) (row-id c tick x row is) ∙ child)) later ends
    ]

unplaced-gone : (clock : Clock) (row : ThreadRow) (main is later : Bool) → (row.id.serial == 0) ≡ main → is_stopped row.state ≡ is
    → nat_lt clock.tick row.start ≡ later → option_map unplaced (gone clock row) ≡ gone clock (unplaced row)
unplaced-gone clock row main is later h k l = grind (arith, nat_tests)

children-gone : (clock : Clock) (levels low high : ℕ) (rows : List ThreadRow) → AreChildren levels low high rows
    → filter_map (gone clock) rows ≡ filter_map (stopped_with_main clock) rows
children-gone clock levels low high [] h = refl
children-gone clock levels low high (row ∷ rows) h = grind (arith, nat_tests, children-gone clock levels row.id.serial high rows)

children-known : (levels low high : ℕ) (rows : List ThreadRow) → AreChildren levels low high rows
    → Each (λ row. (row.id.serial == 0) ≡ false → row.level < levels) rows
children-known levels low high [] h = tt
children-known levels low high (row ∷ rows) h = (λ _. h.0.level, children-known levels row.id.serial high rows h.2)

family-gone : (clock : Clock) (levels : ℕ) (old : Family) → IsFamily levels old
    → (all_stopped clock old).main ∷ (all_stopped clock old).children ≡ filter_map (gone clock) (old.main ∷ old.children)
family-gone clock levels old is = grind (arith, nat_tests, children-gone)

-- an exit or a fault stops its thread, and the children of a main
exit-stops : (label : Label) (event : Event) (x y : ThreadId) → thread_of label ≡ Some x → is_end event ≡ true
    → stops y (entry_of label event) ≡ (is_same y x || is_same (main_of y) x)
exit-stops label event x y of is = grind (arith, nat_tests)

end-makes-none : (c : Configuration) (q tick : ℕ) (event : Event) → is_end event ≡ true → made_by c q tick (Some event) ≡ []
end-makes-none c q tick event is = grind (arith, nat_tests)

-- who is of the process, and who isn't
of-process : (y : ThreadId) (p : ℕ) → y.process ≡ p → (is_same y (main_id p) || is_same (main_of y) (main_id p)) ≡ true
of-process y p same = grind (arith, nat_tests)

off-process : (y : ThreadId) (p : ℕ) → y.process ≢ p → (is_same y (main_id p) || is_same (main_of y) (main_id p)) ≡ false
off-process y p apart = grind (arith, nat_tests)

pub process-stopped : (c : Configuration) (label : Label) (past : List Entry) (table : Table) (p : ℕ) (event : Event) → IsChecked c
    → AreFamilies table.levels table.families → p < length c.processes → thread_of label ≡ Some (main_id p) → is_end event ≡ true
    → ((i : ℕ) → end_at (clock_at c (length past)) i ≡ window_end c i (length past))
    → IsCharged c (entry_of label event) past table
    → IsBooked c (entry_of label event) past (changed_at (all_stopped (clock_at c (length past))) p table)
process-stopped c label past table p event checked families known of end ends is =
    let e : Entry = entry_of label event in
    let tick = length past in
    let clock = clock_at c tick in
    let within : p < length table.families = subst (λ (n : ℕ). p < n) (sym is.processes) known in
    let (old, at) = some-at table.families p within in
    let kin = families p old at in
    let levels : Each (λ row. (row.id.serial == 0) ≡ false → row.level < length c.levels) old.children =
    subst (λ (n : ℕ). Each (λ row. (row.id.serial == 0) ≡ false → row.level < n) old.children) is.levels
    (children-known table.levels 0 old.serials old.children kin.children) in
    let main : (old.main.id.serial == 0) ≡ true = rw kin.main_serial refl in
    stop-recount c e past table p (all_stopped clock) old (gone clock) (λ row. (row.id.serial == 0) ≡ false → row.level < length c.levels)
    at known (λ q. end-makes-none c q tick event end)
    (λ x apart. exit-stops label event (main_id p) x of end ∙ off-process x p apart)
    refl refl (family-gone clock table.levels old kin)
    (λ row. unplaced-gone clock row (row.id.serial == 0) (is_stopped row.state) (nat_lt clock.tick row.start) refl refl refl)
    (λ row h. h)
    (λ child. absurd (true≢false (sym main ∙ child)), levels)
    (λ x of_p rows. thread-gone c e tick x (exit-stops label event (main_id p) x.id of end ∙ of-process x.id p of_p) rows
    (λ i below. ends-later c i tick checked below) ends)
    is

off-same : (x y : ThreadId) → y.process ≢ x.process → is_same x y ≡ false
off-same x y apart = grind (arith, nat_tests)

child-serial-of : (x y : ThreadId) → is_same x y ≡ true → (x.serial == 0) ≡ false → (y.serial == 0) ≡ false
child-serial-of x y same child = grind (arith, nat_tests)

stopped-one : (c : Configuration) (tick : ℕ) (x id : ThreadId) (level quota start : ℕ) (stop : Option ℕ) → is_same x id ≡ true → (x.serial == 0) ≡ false
    → ((row : ThreadRow) → row_at c tick (thread id level quota start stop) ≡ Some row
    → is_same x row.id ≡ true → (is_stopped row.state ≡ false) × (row.level < length c.levels))
    → ((i : ℕ) → i < length c.levels → tick < window_end c i tick) → ((i : ℕ) → end_at (clock_at c tick) i ≡ window_end c i tick)
    → row_at c tick (thread id level quota start (option_or stop (Some tick))) ≡ onward (stopped_child x (clock_at c tick)) (row_at c tick (thread id level quota start stop))
stopped-one c tick x id level quota start None same child rows later ends =
    let y = thread id level quota start None in
    let clock = clock_at c tick in
    let (first, at) = some-row c tick id level quota start (id.serial == 0) refl in
    let named : is_same x first.id ≡ true = ap (is_same x) (row-id c tick y first at) ∙ same in
    let level_known : level < length c.levels = subst (λ (n : ℕ). n < length c.levels) (row-level c tick y first at) (rows first at named).1 in
    let unpassed = not-passed tick (window_end c level tick) (later level level_known) in
    stop-row c tick id level quota start (nat_lt tick start) (child-serial-of x id same child) refl unpassed (ends level)
    ∙ sym (onward-same (stopped_child x clock) (stopped clock) (row_at c tick y)
    (λ row is. rw (ap (is_same x) (row-id c tick y row is) ∙ same) refl))
stopped-one c tick x id level quota start (Some n) same child rows later ends = grind (arith, nat_tests, thread, onward-keep, row-state, row-id)

-- of a child that is stopped, the row isn't stopped before, and is of a level that there is
abbrev IsOpenRow : ThreadId → ℕ → ThreadRow → Type 0
IsOpenRow x levels row = is_same x row.id ≡ true → (is_stopped row.state ≡ false) × (row.level < levels)

same-serial : (x y : ThreadId) → is_same x y ≡ true → x.serial ≡ y.serial
same-serial x y h = eq-true x.serial y.serial (and_parts (x.process == y.process) (x.serial == y.serial) h).1

thread-one : (c : Configuration) (e : Entry) (tick : ℕ) (x : ThreadId) (y : Thread) → stops y.id e ≡ is_same x y.id → (x.serial == 0) ≡ false
    → ((row : ThreadRow) → row_at c tick y ≡ Some row → IsOpenRow x (length c.levels) row)
    → ((i : ℕ) → i < length c.levels → tick < window_end c i tick) → ((i : ℕ) → end_at (clock_at c tick) i ≡ window_end c i tick)
    → row_at c tick (after_entry e tick y) ≡ onward (stopped_child x (clock_at c tick)) (row_at c tick y)
thread-one c e tick x y hit child rows later ends =
    elim (cases_Bool (is_same x y.id)) [
      | inl same ↦ (ap (λ (b : Bool). row_at c tick (thread y.id y.level y.quota y.start (option_or y.stop (then_some b tick)))) (hit ∙ same)
          ∙ stopped-one c tick x y.id y.level y.quota y.start y.stop same child rows later ends)
      | inr apart ↦ (ap (row_at c tick) (same-thread e tick y (hit ∙ apart))
          ∙ sym (onward-keep (stopped_child x (clock_at c tick)) (row_at c tick y)
          (λ row is. rw (ap (is_same x) (row-id c tick y row is) ∙ apart) refl)))
    ]

unplaced-one : (x : ThreadId) (clock : Clock) (row : ThreadRow) (is later : Bool) → is_row_of x row ≡ is → nat_lt clock.tick row.start ≡ later
    → option_map unplaced (stopped_child x clock row) ≡ stopped_child x clock (unplaced row)
unplaced-one x clock row is later h k = grind (arith, nat_tests)

-- no row of a later serial is the child's
later-rows : (x : ThreadId) (levels low high : ℕ) (rows : List ThreadRow) → AreChildren levels low high rows → x.serial ≤ low → Each (IsOpenRow x levels) rows
later-rows x levels low high [] h below = tt
later-rows x levels low high (row ∷ rows) h below = grind (arith, nat_tests, later-rows x levels row.id.serial high rows)

running : (row : ThreadRow) → is_running row ≡ true → is_stopped row.state ≡ false
running row h = not-true (is_stopped row.state) h

-- where the child's first row runs, it is its one row
one-row : (x : ThreadId) (levels low high : ℕ) (rows : List ThreadRow) → AreChildren levels low high rows
    → option_map_or is_running (find (is_row_of x) rows) false ≡ true → Each (IsOpenRow x levels) rows
one-row x levels low high [] h runs = tt
one-row x levels low high (row ∷ rows) h runs = grind (arith, nat_tests, same-serial, running, later-rows, one-row x levels row.id.serial high rows)

-- The recount where an entry stops one child.
pub one-stopped : (c : Configuration) (e : Entry) (past : List Entry) (table : Table) (x : ThreadId) → IsChecked c
    → AreFamilies table.levels table.families → x.process < length c.processes → (x.serial == 0) ≡ false → runs table x ≡ true
    → ((y : ThreadId) → stops y e ≡ is_same x y) → ((q : ℕ) → made_by c q (length past) e.event ≡ [])
    → ((i : ℕ) → end_at (clock_at c (length past)) i ≡ window_end c i (length past))
    → IsCharged c e past table → IsBooked c e past (changed_at (child_stopped x (clock_at c (length past))) x.process table)
one-stopped c e past table x checked families known child runs hit none ends is =
    let tick = length past in
    let clock = clock_at c tick in
    let within : x.process < length table.families = subst (λ (n : ℕ). x.process < n) (sym is.processes) known in
    let (old, at) = some-at table.families x.process within in
    let kin = families x.process old at in
    let other : is_row_of x old.main ≡ false = grind (arith, nat_tests, and-false) in
    let found : option_map_or is_running (find (is_row_of x) (old.main ∷ old.children)) false ≡ true = grind (arith, nat_tests, rows_in) in
    let found_child : option_map_or is_running (find (is_row_of x) old.children) false ≡ true = rw other at found in
    let levels : Each (IsOpenRow x (length c.levels)) old.children = grind (arith, nat_tests, one-row) in
    let main : stopped_child x clock old.main ≡ Some old.main = rw other refl in
    stop-recount c e past table x.process (child_stopped x clock) old (stopped_child x clock) (IsOpenRow x (length c.levels))
    at known none
    (λ y apart. hit y ∙ off-same x y apart)
    refl refl (ap (λ (o : Option ThreadRow). cons_option o (filter_map (stopped_child x clock) old.children)) (sym main))
    (λ row. unplaced-one x clock row (is_row_of x row) (nat_lt clock.tick row.start) refl refl)
    (λ row h. h)
    (λ same. absurd (true≢false (sym same ∙ other)), levels)
    (λ y of_p rows. thread-one c e tick x y (hit y.id) child rows (λ i below. ends-later c i tick checked below) ends)
    is

-- a child's own exit or fault stops it alone
pub exit-one : (label : Label) (event : Event) (x y : ThreadId) → thread_of label ≡ Some x → is_end event ≡ true → (x.serial == 0) ≡ false
    → stops y (entry_of label event) ≡ is_same x y
exit-one label event x y of is child = grind (arith, nat_tests)

-- a main's delete stops the child alone
pub delete-one : (label : Label) (x y : ThreadId) → thread_of label ≡ Some (main_id x.process) → (x.serial == 0) ≡ false
    → stops y (entry_of label (Event.Delete x.serial)) ≡ is_same x y
delete-one label x y of child = grind (arith, nat_tests)

pub child-exits : (c : Configuration) (label : Label) (past : List Entry) (table : Table) (x : ThreadId) (event : Event) → IsChecked c
    → AreFamilies table.levels table.families → x.process < length c.processes → (x.serial == 0) ≡ false → runs table x ≡ true
    → thread_of label ≡ Some x → is_end event ≡ true → ((i : ℕ) → end_at (clock_at c (length past)) i ≡ window_end c i (length past))
    → IsCharged c (entry_of label event) past table
    → IsBooked c (entry_of label event) past (changed_at (child_stopped x (clock_at c (length past))) x.process table)
child-exits c label past table x event checked families known child runs of end ends is =
    one-stopped c (entry_of label event) past table x checked families known child runs (λ y. exit-one label event x y of end child)
    (λ q. end-makes-none c q (length past) event end) ends is

pub child-deleted : (c : Configuration) (label : Label) (past : List Entry) (table : Table) (x : ThreadId) → IsChecked c
    → AreFamilies table.levels table.families → x.process < length c.processes → (x.serial == 0) ≡ false → runs table x ≡ true
    → thread_of label ≡ Some (main_id x.process) → ((i : ℕ) → end_at (clock_at c (length past)) i ≡ window_end c i (length past))
    → IsCharged c (entry_of label (Event.Delete x.serial)) past table
    → IsBooked c (entry_of label (Event.Delete x.serial)) past (changed_at (child_stopped x (clock_at c (length past))) x.process table)
child-deleted c label past table x checked families known child runs of ends is =
    one-stopped c (entry_of label (Event.Delete x.serial)) past table x checked families known child runs (λ y. delete-one label x y of child)
    (λ q. refl) ends is

pub process-ends-by : MainsEndStopsRows
    → (c : Configuration) (e : Entry) (past : List Entry) (table : Table) (p : ℕ) → IsChecked c → AreFamilies table.levels table.families
    → p < length c.processes → is_of (main_id p) e ≡ true → has_event is_end e ≡ true → IsRecount c (length past) (quiet e.label ∷ past) table
    → IsRecount c (length past) (e ∷ past) (changed_at (all_stopped (clock_at c (length past))) p table)
process-ends-by law c e past table p checked are known mine end before = go e.event refl end
  where
    go : (o : Option Event) → e.event ≡ o → option_map_or is_end e.event false ≡ true
        → IsRecount c (length past) (e ∷ past) (changed_at (all_stopped (clock_at c (length past))) p table)
    go None at ends = let none : false ≡ true = rw at at ends in absurd (cc)
    go (Some event) at ends =
        let is : is_end event ≡ true = rw at at ends in
        subst (λ o. IsRecount c (length past) (record { label = e.label; event = o } ∷ past) (changed_at (all_stopped (clock_at c (length past))) p table)) (sym at)
        (law c e.label past table p event checked are known (thread-is (main_id p) e mine) is before)

times-sum : (m a b : ℕ) → m * (a + b) ≡ m * a + m * b
times-sum m a b = grind arith

pub steps-next : (m : ℕ) (xs ys : List ThreadRow) → m * length (xs ++ ys) ≡ m * length xs + m * length ys
steps-next m xs ys = ap (λ n. m * n) (length-append xs ys) ∙ times-sum m (length xs) (length ys)

abbrev pub named : List ThreadRow → ThreadId → Bool
named rows x = list_any (λ (r : ThreadRow). is_same x r.id) rows

pub named-one : (row : ThreadRow) (x : ThreadId) → named (row ∷ []) x ≡ is_same x row.id
named-one row x = or-false (is_same x row.id)

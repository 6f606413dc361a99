-- How the recount goes on where a child is made.
use Rattle.dk_threads.proofs.Names.{◌≡◌, ◌≢◌, ◌<◌, ◌∙◌, ◌==◌, ◌++◌, ℕ, zero, suc, ◌+◌, Bool, true, false, List, [], ◌∷◌, length, map, set, refl, ap, sym, subst, arith, inl, inr, length-append, Some, None, if◌then◌else◌, slice_get, find, option_map_or, nat_tests, append-nil, map-append, filter_map-append, and-false, cases_Bool, Configuration, IsChecked, window_end, ThreadId, Label, Event, Entry, without_event, stops, is_of, is_same, thread_of, Thread, family, after_entry, same-self, ThreadRow, Family, Table, serials_at, changed_at, begun, new_row, free_slot, is_running, stands, next_id, AreFamilies, children_at, find_row, IsRecount, IsCharged, IsBooked, counted_rows, row_at, unplaced, main_id, entry_of, is_row_of, AreChildren}
use Rattle.std.specs.Prelude.{Option}
use Rattle.std.proofs.Math.ListN.{length-set}
use Rattle.dk_threads.proofs.Recounting.{family-same, eq-true, eq-false}
use Rattle.dk_threads.proofs.Descent.{changed-here}

-- a process that there is has a family
pub some-at : (families : List Family) (p : ℕ) → p < length families → (old : Family) × (slice_get families p ≡ Some old)
some-at [] p below = absurd (omega arith)
some-at (x ∷ xs) zero below = (x, refl)
some-at (x ∷ xs) (suc p) below = some-at xs p (omega arith)

set-same : (families : List Family) (p : ℕ) (old new : Family) → slice_get families p ≡ Some old → slice_get (set families p new) p ≡ Some new
set-same [] p old new at = absurd (cc)
set-same (x ∷ xs) zero old new at = refl
set-same (x ∷ xs) (suc p) old new at = set-same xs p old new at

set-other : (families : List Family) (p q : ℕ) (new : Family) → q ≢ p → slice_get (set families p new) q ≡ slice_get families q
set-other [] p q new other = refl
set-other (x ∷ xs) zero zero new other = absurd (other refl)
set-other (x ∷ xs) zero (suc q) new other = refl
set-other (x ∷ xs) (suc p) zero new other = refl
set-other (x ∷ xs) (suc p) (suc q) new other = set-other xs p q new (λ e. other (ap suc e))

abbrev pub rows_in : Option Family → List ThreadRow
rows_in o = option_map_or (λ (x : Family). x.main ∷ x.children) o []

abbrev pub serials_in : Option Family → ℕ
serials_in o = option_map_or (λ (x : Family). x.serials) o 0

abbrev pub most_in : Option Family → ℕ
most_in o = option_map_or (λ (x : Family). x.most) o 0

-- what is so of the changed process, and of each other
by-process : (P : ℕ → Type 0) (p q : ℕ) → P p → (q ≢ p → P q) → P q
by-process P p q here other =
    elim (cases_Bool (q == p)) [ inl same ↦ subst P (sym (eq-true q p same)) here | inr apart ↦ other (eq-false q p apart) ]

-- the recount goes on where the one family that changes is that of the new past
pub recount-changed : (c : Configuration) (tick : ℕ) (before after : List Entry) (table : Table) (p : ℕ) (change : Family → Family) (old : Family)
    → slice_get table.families p ≡ Some old → ((q : ℕ) → q ≢ p → family c q after ≡ family c q before)
    → (change old).most ≡ old.most → (change old).serials + 1 ≡ length (family c p after)
    → map unplaced ((change old).main ∷ (change old).children) ≡ counted_rows c tick after p
    → IsRecount c tick before table → p < length c.processes → IsRecount c tick after (changed_at change p table)
recount-changed c tick before after table p change old at others most serials rows is known = grind (arith, nat_tests, set-same, set-other, length-set, by-process)

pub of-thread : (y x : ThreadId) (e : Entry) → thread_of e.label ≡ Some x → is_of y e ≡ is_same y x
of-thread y x e of = ap (λ (o : Option ThreadId). option_map_or (is_same y) o false) of

pub unstopped : (e : Entry) (tick : ℕ) (xs : List Thread) → ((x : ThreadId) → stops x e ≡ false) → map (after_entry e tick) xs ≡ xs
unstopped e tick [] none = refl
unstopped e tick (x ∷ xs) none = grind (arith, nat_tests, unstopped e tick xs)

create-stops : (x : ThreadId) (label : Label) (serial level quota : ℕ) → stops x (entry_of label (Event.Create serial level quota)) ≡ false
create-stops x label serial level quota = simp and-false refl

pub other-main : (q p : ℕ) → q ≢ p → is_same (main_id q) (main_id p) ≡ false
other-main q p apart = grind (arith, nat_tests)

pub same-main : (p : ℕ) → is_same (main_id p) (main_id p) ≡ true
same-main p = grind (arith, nat_tests)

made-other : (b : Bool) (xs : List Thread) → b ≡ false → (if b then xs else []) ≡ []
made-other b xs h = rw h refl

made-here : (b : Bool) (xs : List Thread) → b ≡ true → (if b then xs else []) ≡ xs
made-here b xs h = rw h refl

-- the window of a tick ends after it
pub ends-later : (c : Configuration) (level tick : ℕ) → IsChecked c → level < length c.levels → tick < window_end c level tick
ends-later c level tick checked known = grind (arith, nat_tests)

new-at : (c : Configuration) (tick p serial level quota : ℕ) (main : Bool) → (serial == 0) ≡ main → tick < window_end c level tick
    → row_at c tick (record { id = record { process = p; serial = serial }; level = level; quota = quota; start = window_end c level tick; stop = None })
    ≡ Some (new_row (record { process = p; serial = serial }) level 0 (window_end c level tick))
new-at c tick p serial level quota main is later = grind (arith, nat_tests)

pub born : (c : Configuration) (label : Label) (past : List Entry) (table : Table) (p serial level quota : ℕ) → IsChecked c
    → p < length c.processes → level < length c.levels → thread_of label ≡ Some (main_id p) → serial ≡ serials_at table p + 1
    → IsCharged c (entry_of label (Event.Create serial level quota)) past table
    → IsBooked c (entry_of label (Event.Create serial level quota)) past (changed_at (begun p level (window_end c level (length past))) p table)
born c label past table p serial level quota checked known level_known of next is =
    let e : Entry = entry_of label (Event.Create serial level quota) in
    let tick = length past in
    let start = window_end c level tick in
    let within : p < length table.families = subst (λ (n : ℕ). p < n) (sym is.processes) known in
    let (old, at) = some-at table.families p within in
    let new : Thread = record { id = record { process = p; serial = serial }; level = level; quota = quota; start = start; stop = None } in
    let before : (q : ℕ) → family c q (without_event e ∷ past) ≡ family c q past = λ q. family-same c q (without_event e) past refl in
    let kept : (q : ℕ) → map (after_entry e tick) (family c q past) ≡ family c q past = grind (arith, nat_tests, unstopped, create-stops) in
    let here : family c p (e ∷ past) ≡ family c p (without_event e ∷ past) ++ new ∷ [] = grind (arith, nat_tests, made-here, of-thread, same-main) in
    let others : (q : ℕ) → q ≢ p → family c q (e ∷ past) ≡ family c q (without_event e ∷ past) = grind (arith, nat_tests, made-other, of-thread, other-main, append-nil) in
    let given : serial ≡ old.serials + 1 = next ∙ ap (λ (o : Option Family). serials_in o + 1) at in
    let rows_before : map unplaced (old.main ∷ old.children) ≡ counted_rows c tick (without_event e ∷ past) p = grind (arith, nat_tests) in
    let serials_before : old.serials + 1 ≡ length (family c p (without_event e ∷ past)) =
    sym (ap (λ (o : Option Family). serials_in o + 1) at) ∙ is.serials p known in
    let longer : length (family c p (e ∷ past)) ≡ length (family c p (without_event e ∷ past)) + 1 =
    ap length here ∙ length-append (family c p (without_event e ∷ past)) (new ∷ []) in
    let row : ThreadRow = new_row (record { process = p; serial = old.serials + 1 }) level (free_slot old.children) start in
    let at_tick : row_at c tick new ≡ Some (unplaced row) = grind (arith, nat_tests, new-at, ends-later) in
    let rows_after : map unplaced (old.main ∷ (old.children ++ row ∷ [])) ≡ counted_rows c tick (e ∷ past) p = grind (arith, nat_tests, map-append, filter_map-append) in
    recount-changed c tick (without_event e ∷ past) (e ∷ past) table p (begun p level start) old at others refl (omega arith) rows_after is known

-- a row of another serial isn't that of the name
other-row : (x : ThreadId) (row : ThreadRow) → row.id.serial < x.serial → is_row_of x row ≡ false
other-row x row less = grind (arith, nat_tests)

found-last : (x : ThreadId) (levels low high : ℕ) (rows : List ThreadRow) (row : ThreadRow) → AreChildren levels low high rows → high < x.serial → is_row_of x row ≡ true
    → find (is_row_of x) (rows ++ row ∷ []) ≡ Some row
found-last x levels low high [] row are above is = rw is refl
found-last x levels low high (first ∷ rows) row are above is = grind (arith, nat_tests, found-last x levels first.id.serial high rows)

pub some-family : (table : Table) (p : ℕ) → stands table p ≡ true → (f : Family) × (slice_get table.families p ≡ Some f)
some-family table p is = go (slice_get table.families p) refl
  where
    go : (o : Option Family) → slice_get table.families p ≡ o → (f : Family) × (slice_get table.families p ≡ Some f)
    go None at = let none : false ≡ true = sym (ap (λ o. option_map_or (λ (family : Family). is_running family.main) o false) at) ∙ is in absurd (cc)
    go (Some f) at = (f, at)

pub begun-found : (table : Table) (p level start : ℕ) → AreFamilies table.levels table.families → stands table p ≡ true
    → find_row (changed_at (begun p level start) p table) (next_id table p) ≡ Some (new_row (next_id table p) level (free_slot (children_at table p)) start)
begun-found table p level start are is =
    let r = some-family table p is in
    let f = r.0 in
    let family = are p f r.1 in
    let serials : serials_at table p ≡ f.serials = ap (λ o. option_map_or (λ (z : Family). z.serials) o 0) r.1 in
    let children : children_at table p ≡ f.children = ap (λ o. option_map_or (λ (z : Family). z.children) o []) r.1 in
    let main = family.main_serial in
    let x : ThreadId = record { process = p; serial = f.serials + 1 } in
    let row : ThreadRow = new_row x level (free_slot f.children) start in
    let found : find (is_row_of x) (f.main ∷ (f.children ++ row ∷ [])) ≡ Some row = grind (arith, nat_tests, other-row, found-last, same-self) in
    ap (λ o. find (is_row_of (next_id table p)) (option_map_or (λ (z : Family). z.main ∷ z.children) o [])) (changed-here (begun p level start) p table f r.1)
    ∙ ap (λ s. find (is_row_of (record { process = p; serial = s + 1 })) (f.main ∷ (f.children ++ row ∷ []))) serials
    ∙ found
    ∙ ap (λ s. Some (new_row (record { process = p; serial = s + 1 }) level (free_slot f.children) start)) (sym serials)
    ∙ ap (λ rows. Some (new_row (next_id table p) level (free_slot rows) start)) (sym children)

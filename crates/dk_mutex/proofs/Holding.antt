-- The table stays the recount of the past through a lock and through an unlock.
use Rattle.dk_mutex.proofs.Names.{◌≡◌, ◌<◌, ◌-◌, ◌∙◌, inl, inr, true, false, eqb, ℕ, zero, suc, List, [], ◌∷◌, length, map, Option, Some, None, ap, sym, subst, refl, arith, cases_Bool, nat_tests, length-map-range_with_len, get_or-map-range_with_len, Configuration, longest_hold, ThreadId, Event, Entry, is_same, is_of, has_event, is_end, is_delete_of, stops, thread_of, Hold, given_back, held_after, held_by, same-self, same-id, Holder, Lockable, row_of, rows_of, holder_left, left_at, given_to, hold_of, is_free, is_held_by, IsRecount, counted_left, emptied, hold_at, without_event}
use Rattle.std.proofs.Common.{option_map}
use Rattle.dk_trace.specs.Holds.{hold_left}
use Rattle.dk_mutex.proofs.Least.{no_row}
use Rattle.dk_mutex.proofs.Lefts.{hold-read}
use Rattle.dk_mutex.proofs.Recounts.{not-of}

emptied-given : (holder : Option Holder) (m : ℕ) (rows : List Lockable) → map emptied (given_to holder m rows) ≡ map emptied rows
emptied-given holder m [] = refl
emptied-given holder zero (row ∷ rows) = refl
emptied-given holder (suc m) (row ∷ rows) = grind (arith, nat_tests, emptied-given holder m rows)

given-same : (x : ThreadId) (holder : Option Holder) (m : ℕ) (rows : List Lockable) → m < length rows
    → left_at x (given_to holder m rows) m ≡ holder_left x holder
given-same x holder m [] below = absurd (omega arith)
given-same x holder zero (row ∷ rows) below = refl
given-same x holder (suc m) (row ∷ rows) below = grind (arith, nat_tests, given-same x holder m rows)

given-none : (x : ThreadId) (m : ℕ) (rows : List Lockable) → left_at x (given_to None m rows) m ≡ None
given-none x m [] = refl
given-none x zero (row ∷ rows) = refl
given-none x (suc m) (row ∷ rows) = grind (arith, nat_tests, given-none x m rows)

given-apart : (x : ThreadId) (holder : Option Holder) (m k : ℕ) (rows : List Lockable) → eqb k m ≡ false
    → left_at x (given_to holder m rows) k ≡ left_at x rows k
given-apart x holder m k [] apart = refl
given-apart x holder zero zero (row ∷ rows) apart = absurd (cc)
given-apart x holder zero (suc k) (row ∷ rows) apart = refl
given-apart x holder (suc m) zero (row ∷ rows) apart = grind (arith, nat_tests)
given-apart x holder (suc m) (suc k) (row ∷ rows) apart = grind (arith, nat_tests, given-apart x holder m k rows)

pub left-free : (x : ThreadId) (m : ℕ) (rows : List Lockable) → is_free m rows ≡ true → left_at x rows m ≡ None
left-free x m [] free = refl
left-free x zero (row ∷ rows) free = grind (arith, nat_tests)
left-free x (suc m) (row ∷ rows) free = left-free x m rows free

left-taken : (x id : ThreadId) (m : ℕ) (rows : List Lockable) → is_same x id ≡ false → is_held_by id rows m ≡ true → left_at x rows m ≡ None
left-taken x id m [] apart held = refl
left-taken x id zero (row ∷ rows) apart held = grind (arith, nat_tests)
left-taken x id (suc m) (row ∷ rows) apart held = grind (arith, nat_tests, left-taken x id m rows)

back-same : (m : ℕ) (held : List Hold) → hold_at m (given_back m held) ≡ None
back-same m [] = refl
back-same m (h ∷ held) = grind (arith, nat_tests, back-same m held)

pub back-other : (m k : ℕ) (held : List Hold) → eqb k m ≡ false → hold_at k (given_back m held) ≡ hold_at k held
back-other m k [] apart = refl
back-other m k (h ∷ held) apart = grind (arith, nat_tests, back-other m k held apart)

stops-quiet : (x : ThreadId) (e : Entry) → has_event is_end e ≡ false → has_event (is_delete_of x.serial) e ≡ false → stops x e ≡ false
stops-quiet x e no-end no-delete = grind (arith, nat_tests)

-- the holds of a thread after its event, and of another thread
pub after-own : (id : ThreadId) (e : Entry) (past : List Entry) → stops id e ≡ false → is_of id e ≡ true
    → held_by id (e ∷ past) ≡ held_after e.event (held_by id (without_event e ∷ past))
after-own id e past stays mine = grind (arith, nat_tests)

pub after-other : (x : ThreadId) (e : Entry) (past : List Entry) → stops x e ≡ false → is_of x e ≡ false
    → held_by x (e ∷ past) ≡ held_by x (without_event e ∷ past)
after-other x e past stays other = grind (arith, nat_tests)

hold_of-emptied : (rows : List Lockable) (m : ℕ) → hold_of (map emptied rows) m ≡ hold_of rows m
hold_of-emptied [] m = refl
hold_of-emptied (row ∷ rows) zero = refl
hold_of-emptied (row ∷ rows) (suc m) = hold_of-emptied rows m

length-emptied : (rows : List Lockable) → length (map emptied rows) ≡ length rows
length-emptied [] = refl
length-emptied (row ∷ rows) = ap suc (length-emptied rows)

hold_of-start : (c : Configuration) (m : ℕ) → m < length c.mutexes → hold_of (rows_of c) m ≡ longest_hold c m
hold_of-start c m below =
    let many : length (rows_of c) ≡ length c.mutexes = length-map-range_with_len (row_of c) 0 (length c.mutexes) in
    sym (hold-read (rows_of c) m no_row (omega arith))
    ∙ ap (λ (row : Lockable). row.hold) (get_or-map-range_with_len (row_of c) 0 (length c.mutexes) m m no_row below (omega arith))

-- what each thread has left of each mutex, from the mutex of the event and the thread of the entry
each : (c : Configuration) (past : List Entry) (rows : List Lockable) (id : ThreadId) (m : ℕ) (e : Entry) (holder : Option Holder)
    → IsRecount c (without_event e ∷ past) rows → is_of id e ≡ true → ((x : ThreadId) → stops x e ≡ false)
    → left_at id (given_to holder m rows) m ≡ counted_left c (e ∷ past) id m
    → ((k : ℕ) → eqb k m ≡ false → left_at id (given_to holder m rows) k ≡ counted_left c (e ∷ past) id k)
    → ((x : ThreadId) → is_same x id ≡ false → left_at x (given_to holder m rows) m ≡ left_at x rows m)
    → (x : ThreadId) (k : ℕ) → left_at x (given_to holder m rows) k ≡ counted_left c (e ∷ past) x k
each c past rows id m e holder before mine stays own-same own-apart other-same x k =
    elim (cases_Bool (is_same x id)) [
      | inl same ↦
          subst (λ y. left_at y (given_to holder m rows) k ≡ counted_left c (e ∷ past) y k) (sym (same-id x id same))
          (elim (cases_Bool (eqb k m)) [
            | inl here ↦ grind (arith, nat_tests)
            | inr apart ↦ own-apart k apart
          ])
      | inr off ↦
          kept off
          ∙ before.holds x k
          ∙ sym (ap (λ l. option_map (hold_left c) (hold_at k l)) (after-other x e past (stays x) (not-of x id (thread_of e.label) off mine)))
    ]
  where
    kept : is_same x id ≡ false → left_at x (given_to holder m rows) k ≡ left_at x rows k
    kept off =
        elim (cases_Bool (eqb k m)) [
          | inl here ↦ grind (arith, nat_tests)
          | inr apart ↦ given-apart x holder m k rows apart
        ]

pub recount-lock : (c : Configuration) (past : List Entry) (rows : List Lockable) (id : ThreadId) (level m : ℕ) (e : Entry)
    → IsRecount c (without_event e ∷ past) rows → is_of id e ≡ true → e.event ≡ Some (Event.Lock m)
    → m < length c.mutexes → is_free m rows ≡ true
    → IsRecount c (e ∷ past) (given_to (Some (record { thread = id; level = level; left = hold_of rows m })) m rows)
recount-lock c past rows id level m e before mine locks below free =
    let h : Holder = record { thread = id; level = level; left = hold_of rows m } in
    let stays : (x : ThreadId) → stops x e ≡ false = λ x. stops-quiet x e (rw locks refl) (rw locks refl) in
    let many : length (rows_of c) ≡ length c.mutexes = length-map-range_with_len (row_of c) 0 (length c.mutexes) in
    let same-many : length rows ≡ length (rows_of c) = sym (length-emptied rows) ∙ ap length before.mutexes in
    let long : hold_of rows m ≡ longest_hold c m - 0 =
    sym (hold_of-emptied rows m) ∙ ap (λ rs. hold_of rs m) before.mutexes ∙ hold_of-start c m below ∙ omega arith in
    let held : held_by id (e ∷ past) ≡ record { mutex = m; ticks = 0 } ∷ given_back m (held_by id (without_event e ∷ past)) = grind (arith, nat_tests, after-own) in
    let others : List Hold = given_back m (held_by id (without_event e ∷ past)) in
    let is : eqb m m ≡ true = grind (arith, nat_tests) in
    let new : holder_left id (Some h) ≡ Some (longest_hold c m - 0) = rw (same-self id) (ap Some long) in
    let first : hold_at m (record { mutex = m; ticks = 0 } ∷ others) ≡ Some (record { mutex = m; ticks = 0 }) = rw is refl in
    let counted : counted_left c (e ∷ past) id m ≡ Some (longest_hold c m - 0) = grind (arith, nat_tests) in
    let inside : m < length rows = omega (arith, many, same-many, below) in
    let own-same : left_at id (given_to (Some h) m rows) m ≡ counted_left c (e ∷ past) id m = grind (arith, nat_tests, given-same) in
    let own-apart : (k : ℕ) → eqb k m ≡ false → left_at id (given_to (Some h) m rows) k ≡ counted_left c (e ∷ past) id k = grind (arith, nat_tests, back-other, given-apart) in
    let other-same : (x : ThreadId) → is_same x id ≡ false → left_at x (given_to (Some h) m rows) m ≡ left_at x rows m = grind (arith, nat_tests, given-same, left-free) in
    record {
      mutexes = emptied-given (Some h) m rows ∙ before.mutexes;
      holds = each c past rows id m e (Some h) before mine stays own-same own-apart other-same;
    }

pub recount-unlock : (c : Configuration) (past : List Entry) (rows : List Lockable) (id : ThreadId) (m : ℕ) (e : Entry)
    → IsRecount c (without_event e ∷ past) rows → is_of id e ≡ true → e.event ≡ Some (Event.Unlock m) → is_held_by id rows m ≡ true
    → IsRecount c (e ∷ past) (given_to None m rows)
recount-unlock c past rows id m e before mine unlocks holds =
    let stays : (x : ThreadId) → stops x e ≡ false = λ x. stops-quiet x e (rw unlocks refl) (rw unlocks refl) in
    let held : held_by id (e ∷ past) ≡ given_back m (held_by id (without_event e ∷ past)) = grind (arith, nat_tests, after-own) in
    let own-same : left_at id (given_to None m rows) m ≡ counted_left c (e ∷ past) id m = grind (arith, nat_tests, given-none, back-same) in
    let own-apart : (k : ℕ) → eqb k m ≡ false → left_at id (given_to None m rows) k ≡ counted_left c (e ∷ past) id k = grind (arith, nat_tests, given-apart, back-other) in
    let other-same : (x : ThreadId) → is_same x id ≡ false → left_at x (given_to None m rows) m ≡ left_at x rows m = grind (arith, nat_tests, given-none, left-taken) in
    record {
      mutexes = emptied-given None m rows ∙ before.mutexes;
      holds = each c past rows id m e None before mine stays own-same own-apart other-same;
    }

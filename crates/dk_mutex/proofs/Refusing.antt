-- The table refuses a lock and an unlock as the past does.
use Rattle.dk_mutex.proofs.Names.{◌≡◌, ◌<◌, ◌≤◌, ◌∙◌, inl, inr, ◌||◌, Bool, false, ltb, ℕ, List, [], ◌∷◌, length, map, Option, Some, None, refl, ap, sym, arith, option_map_or, cases_lt, length-map-range_with_len, get_or-map-range_with_len, slice_get-get_or, slice_get-map, slice_get_past, MAX_PROCESSES, Configuration, longest_hold, is_user, Refusal, Entry, Thread, held_by, first_refusal, past_lock_refusal, past_unlock_refusal, Lockable, lists_user, row_of, rows_of, users_of, hold_of, holds_within, is_held_by, is_innermost, lock_refusal, may_lock, unlock_refusal, IsRecount, LastIsLeast, emptied, nat_tests}
use Rattle.std.specs.Prelude.{slice_get, not}
use Rattle.dk_trace.specs.Jobs.{thread_body_left}
use Rattle.dk_trace.specs.Holds.{is_held}
use Rattle.dk_mutex.proofs.Innermost.{held-past, test-is, within-past}

row-at : (c : Configuration) (m : ℕ) → m < length c.mutexes → slice_get (rows_of c) m ≡ Some (row_of c m)
row-at c m known =
    let many : length (rows_of c) ≡ length c.mutexes = length-map-range_with_len (row_of c) 0 (length c.mutexes) in
    slice_get-get_or (rows_of c) m (row_of c m) (omega (arith, many, known))
    ∙ ap Some (get_or-map-range_with_len (row_of c) 0 (length c.mutexes) m m (row_of c m) known (omega arith))

row-none : (c : Configuration) (m : ℕ) → length c.mutexes ≤ m → slice_get (rows_of c) m ≡ None
row-none c m past = grind (arith, nat_tests, length-map-range_with_len, slice_get_past)

of-emptied : {B : Type 0} (f : Lockable → B) (z : B) (rows : List Lockable) (m : ℕ) → ((row : Lockable) → f (emptied row) ≡ f row)
    → option_map_or f (slice_get rows m) z ≡ option_map_or f (slice_get (map emptied rows) m) z
of-emptied f z rows m same = grind (arith, nat_tests, slice_get-map)

hold-is : (c : Configuration) (past : List Entry) (rows : List Lockable) (m : ℕ) → IsRecount c past rows → hold_of rows m ≡ longest_hold c m
hold-is c past rows m holders = grind (arith, nat_tests, of-emptied, row-at, row-none, slice_get_past)

user-is : (c : Configuration) (past : List Entry) (rows : List Lockable) (m p : ℕ) → IsRecount c past rows → p < MAX_PROCESSES → may_lock rows m p ≡ is_user c m p
user-is c past rows m p holders low =
    of-emptied (λ (row : Lockable). lists_user row p) false rows m (λ row. refl)
    ∙ ap (λ rs. option_map_or (λ (row : Lockable). lists_user row p) (slice_get rs m) false) holders.mutexes
    ∙ elim (cases_lt m (length c.mutexes)) [
      | inl known ↦
          ap (λ o. option_map_or (λ (row : Lockable). lists_user row p) o false) (row-at c m known)
          ∙ ap (λ o. option_map_or (λ (listed : Bool). listed) o false) listed
      | inr past ↦
          ap (λ o. option_map_or (λ (row : Lockable). lists_user row p) o false) (row-none c m past)
          ∙ sym (none-user past)
    ]
  where
    listed : slice_get (users_of c m) p ≡ Some (is_user c m p)
    listed =
        let many : length (users_of c m) ≡ MAX_PROCESSES = length-map-range_with_len (λ q. is_user c m q) 0 MAX_PROCESSES in
        slice_get-get_or (users_of c m) p false (omega (arith, many, low))
        ∙ ap Some (get_or-map-range_with_len (λ q. is_user c m q) 0 MAX_PROCESSES p p false low (omega arith))

    none-user : length c.mutexes ≤ m → is_user c m p ≡ false
    none-user past = rw (slice_get_past c.mutexes m past) refl

-- Lock.

abbrev Reasons : Bool → Bool → Bool → Option Refusal
Reasons uses holding little = first_refusal ((not uses, Refusal.NotUser) ∷ (holding, Refusal.Holding) ∷ (little, Refusal.TooLittle) ∷ [])

pub lock-past : (c : Configuration) (now : ℕ) (past : List Entry) (rows : List Lockable) (x : Thread) (m : ℕ) → IsRecount c past rows → LastIsLeast c (held_by x.id past) → x.id.process < MAX_PROCESSES
    → lock_refusal x.id m (thread_body_left c now past x) rows ≡ past_lock_refusal c now past x m
lock-past c now past rows x m is last low =
    let left = thread_body_left c now past x in
    ap (λ b. Reasons b (is_held_by x.id rows m) (ltb left (hold_of rows m) || holds_within x.id (hold_of rows m) rows)) (user-is c past rows m x.id.process is low)
    ∙ ap (λ b. Reasons (is_user c m x.id.process) b (ltb left (hold_of rows m) || holds_within x.id (hold_of rows m) rows)) (held-past c past rows x.id m is)
    ∙ ap (λ n. Reasons (is_user c m x.id.process) (is_held m (held_by x.id past)) (ltb left n || holds_within x.id n rows)) (hold-is c past rows m is)
    ∙ ap (λ b. Reasons (is_user c m x.id.process) (is_held m (held_by x.id past)) (ltb left (longest_hold c m) || b)) (within-past c past rows x.id (longest_hold c m) is last)

-- Unlock.

pub unlock-past : (c : Configuration) (past : List Entry) (rows : List Lockable) (x : Thread) (m : ℕ) → IsRecount c past rows → LastIsLeast c (held_by x.id past)
    → unlock_refusal x.id m rows ≡ past_unlock_refusal past x m
unlock-past c past rows x m is last =
    ap (λ b. first_refusal ((not b, Refusal.NotHeld) ∷ (not (is_innermost x.id rows m), Refusal.NotLast) ∷ [])) (held-past c past rows x.id m is)
    ∙ ap (λ b. first_refusal ((not (is_held m (held_by x.id past)), Refusal.NotHeld) ∷ (not b, Refusal.NotLast) ∷ [])) (test-is c x.id rows (held_by x.id past) m last (is.holds x.id))

-- Why a lock and an unlock are refused, by the row of the mutex.
use Rattle.dk_mutex.proofs.Names.{◌≡◌, ◌||◌, Bool, false, ltb, not, ℕ, List, [], ◌∷◌, Option, Some, None, ap, option_map_or, ThreadId, Refusal, first_refusal, Lockable, is_by, is_within, lists_user, hold_left, holds_within, lock_refusal, unlock_refusal, nat_tests, arith}
use Rattle.std.specs.Prelude.{slice_get}

pub not-none : (r : Refusal) → Some r ≡ None → ⊥
not-none r e = cc

abbrev pub lock-reason : Bool → Bool → Bool → Option Refusal
lock-reason uses holding little =
    first_refusal ((not uses, Refusal.NotUser) ∷ (holding, Refusal.Holding) ∷ (little, Refusal.TooLittle) ∷ [])

abbrev lock-at : ThreadId → ℕ → List Lockable → Option Lockable → Option Refusal
lock-at x body_left rows o =
    lock-reason (option_map_or (λ (r : Lockable). lists_user r x.process) o false) (option_map_or (is_by x) o false)
    (ltb body_left (option_map_or (λ (r : Lockable). r.hold) o 0) || holds_within x (option_map_or (λ (r : Lockable). r.hold) o 0) rows)

pub lock-none : (x : ThreadId) (m body_left : ℕ) (rows : List Lockable) → slice_get rows m ≡ None → lock_refusal x m body_left rows ≡ Some Refusal.NotUser
lock-none x m body_left rows none = ap (lock-at x body_left rows) none

pub lock-some : (x : ThreadId) (m body_left : ℕ) (rows : List Lockable) (row : Lockable) (uses holding little : Bool) → slice_get rows m ≡ Some row
    → uses ≡ lists_user row x.process → holding ≡ is_by x row → little ≡ (ltb body_left row.hold || holds_within x row.hold rows)
    → lock_refusal x m body_left rows ≡ lock-reason uses holding little
lock-some x m body_left rows row uses holding little some user by least = grind (arith, nat_tests)

abbrev pub unlock-reason : Bool → Bool → Option Refusal
unlock-reason holding innermost = first_refusal ((not holding, Refusal.NotHeld) ∷ (not innermost, Refusal.NotLast) ∷ [])

abbrev unlock-at : ThreadId → List Lockable → Option Lockable → Option Refusal
unlock-at x rows o = unlock-reason (option_map_or (is_by x) o false) (option_map_or (is_within x (hold_left x rows)) o false)

pub unlock-none : (x : ThreadId) (m : ℕ) (rows : List Lockable) → slice_get rows m ≡ None → unlock_refusal x m rows ≡ Some Refusal.NotHeld
unlock-none x m rows none = ap (unlock-at x rows) none

pub unlock-some : (x : ThreadId) (m : ℕ) (rows : List Lockable) (row : Lockable) (holding innermost : Bool) → slice_get rows m ≡ Some row
    → holding ≡ is_by x row → innermost ≡ is_within x (hold_left x rows) row
    → unlock_refusal x m rows ≡ unlock-reason holding innermost
unlock-some x m rows row holding innermost some by last = rw (by, last) (ap (unlock-at x rows) some)

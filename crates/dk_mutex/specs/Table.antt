-- What the calls ask and change, over all mutexes.
use Rattle.std.specs.Prelude.{ℕ, ◌≡◌, Bool, true, false, not, ◌||◌, ◌==◌, nat_lt, if◌then◌else◌, List, [], ◌∷◌, map, slice_get, slice_set, Option, is_none, Some, None}
use Rattle.std.specs.List.{list_any, position_from}
use Rattle.std.specs.Option.{option_map_or, option_map}
use Rattle.dk_trace.specs.declared.ThreadId.{ThreadId}
use Rattle.dk_trace.specs.declared.Refusal.{Refusal}
use Rattle.dk_trace.specs.Refusals.{first_refusal}
use Rattle.dk_mutex.specs.declared.row.Holder.{Holder}
use Rattle.dk_mutex.specs.declared.row.Lockable.{Lockable}
use Rattle.dk_mutex.specs.Rows.{is_by, is_within, left_of, ceiling_of, lists_user, least}

-- a number of a row, and 0 where there is no such row
abbrev pub of_row : (Lockable → ℕ) → List Lockable → ℕ → ℕ
of_row f rows m = option_map_or f (slice_get rows m) 0

abbrev pub hold_of : List Lockable → ℕ → ℕ
hold_of rows m = of_row (λ row. row.hold) rows m

abbrev pub ceiling_at : List Lockable → ℕ → ℕ
ceiling_at rows m = of_row (λ row. row.ceiling) rows m

-- a test of a row, and false where there is no such row
abbrev pub at_row : (Lockable → Bool) → List Lockable → ℕ → Bool
at_row test rows m = option_map_or test (slice_get rows m) false

abbrev pub is_held_by : ThreadId → List Lockable → ℕ → Bool
is_held_by x rows m = at_row (is_by x) rows m

-- for how many ticks more the thread may hold the mutex, where it does
abbrev pub left_at : ThreadId → List Lockable → ℕ → Option ℕ
left_at x rows m = option_map_or (left_of x) (slice_get rows m) None

-- no thread has the same number of ticks left of two mutexes
abbrev pub LeftsDiffer : List Lockable → Type 0
LeftsDiffer rows =
    (x : ThreadId) (m k n : ℕ) → left_at x rows m ≡ Some n → left_at x rows k ≡ Some n → m ≡ k

-- whether nobody holds the mutex
abbrev pub is_free : ℕ → List Lockable → Bool
is_free m rows = option_map_or (λ row. is_none row.holder) (slice_get rows m) true

-- whether the process is among the users of the mutex
abbrev pub may_lock : List Lockable → ℕ → ℕ → Bool
may_lock rows m p = at_row (λ row. lists_user row p) rows m

-- the least Left of the mutexes that the thread holds, and 0 where it holds nothing
abbrev pub hold_left : ThreadId → List Lockable → ℕ
hold_left x rows = option_map_or (λ n. n) (least (map (left_of x) rows)) 0

-- the mutex of the least Left
abbrev pub innermost : ThreadId → List Lockable → Option ℕ
innermost x rows = position_from (is_within x (hold_left x rows)) 0 rows

-- whether the thread holds a mutex for at most so many ticks more
abbrev pub holds_within : ThreadId → ℕ → List Lockable → Bool
holds_within x most rows = list_any (is_within x most) rows

-- the least ceiling of the mutexes that the thread holds, and its own level where it holds nothing
abbrev pub effective_level : ThreadId → ℕ → List Lockable → ℕ
effective_level x own rows = option_map_or (λ n. n) (least (map (ceiling_of x) rows)) own

abbrev pub lock_reasons : ThreadId → ℕ → ℕ → List Lockable → List (Bool × Refusal)
lock_reasons x m body_left rows =
    ((not (may_lock rows m x.process), Refusal.NotUser)
    ∷ (is_held_by x rows m, Refusal.Holding)
    ∷ (nat_lt body_left (hold_of rows m) || holds_within x (hold_of rows m) rows, Refusal.TooLittle)
    ∷ [])

abbrev pub lock_refusal : ThreadId → ℕ → ℕ → List Lockable → Option Refusal
lock_refusal x m body_left rows = first_refusal (lock_reasons x m body_left rows)

abbrev pub is_innermost : ThreadId → List Lockable → ℕ → Bool
is_innermost x rows m = at_row (is_within x (hold_left x rows)) rows m

abbrev pub unlock_reasons : ThreadId → ℕ → List Lockable → List (Bool × Refusal)
unlock_reasons x m rows =
    ((not (is_held_by x rows m), Refusal.NotHeld)
    ∷ (not (is_innermost x rows m), Refusal.NotLast)
    ∷ [])

abbrev pub unlock_refusal : ThreadId → ℕ → List Lockable → Option Refusal
unlock_refusal x m rows = first_refusal (unlock_reasons x m rows)

-- the rows with another holder of that mutex
abbrev pub given_to : Option Holder → ℕ → List Lockable → List Lockable
given_to holder m rows =
    option_map_or (λ row. slice_set rows m (record row { holder = holder })) (slice_get rows m) rows

abbrev pub is_holder_at : List Lockable → ℕ → Option Holder → Bool
is_holder_at rows level None = false
is_holder_at rows level (Some h) = effective_level h.thread h.level rows == level

-- the first holder of the given rows that runs at the level
abbrev pub first_holder : List Lockable → ℕ → List Lockable → Option ThreadId
first_holder all level [] = None
first_holder all level (row ∷ rows) =
    let later = first_holder all level rows in
    if is_holder_at all level row.holder then option_map (λ h. h.thread) row.holder else later

-- the holder that runs at the level; of several, that of the first mutex by row
abbrev pub holder_at : ℕ → List Lockable → Option ThreadId
holder_at level rows = first_holder rows level rows

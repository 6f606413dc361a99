-- The mutexes by their rows, and what a thread holds of them.
use Rattle.std.specs.Prelude.{ℕ, ◌-◌, Bool, false, not, ◌&&◌, ◌==◌, nat_le, min, max, if◌then◌else◌, List, [], ◌∷◌, length, map, slice_get, Option, Some, None, is_some}
use Rattle.std.specs.List.{range_with_len}
use Rattle.std.specs.Option.{option_map_or}
use Rattle.dk_config.specs.declared.TheConstants.{MAX_PROCESSES}
use Rattle.dk_config.specs.Configuration.{Configuration}
use Rattle.dk_config.specs.Windows.{ceiling, longest_hold}
use Rattle.dk_config.specs.Certification.{is_user}
use Rattle.dk_trace.specs.declared.ThreadId.{ThreadId}
use Rattle.dk_trace.specs.Entries.{is_same}
use Rattle.dk_mutex.specs.declared.row.Holder.{Holder}
use Rattle.dk_mutex.specs.declared.row.Lockable.{Lockable}

-- for each process whether it is among the users of the mutex
abbrev pub users_of : Configuration → ℕ → List Bool
users_of c m = map (λ p. is_user c m p) (range_with_len 0 MAX_PROCESSES)

-- the mutex of the row of the configuration, which nobody holds
abbrev pub row_of : Configuration → ℕ → Lockable
row_of c m = record {
  ceiling = ceiling c m;
  hold = longest_hold c m;
  users = users_of c m;
  holder = None;
}

abbrev pub rows_of : Configuration → List Lockable
rows_of c = map (row_of c) (range_with_len 0 (length c.mutexes))

abbrev pub lists_user : Lockable → ℕ → Bool
lists_user row p = option_map_or (λ listed. listed) (slice_get row.users p) false

abbrev pub is_holder : ThreadId → Option Holder → Bool
is_holder x None = false
is_holder x (Some h) = is_same x h.thread

-- whether the thread holds the mutex
abbrev pub is_by : ThreadId → Lockable → Bool
is_by x row = is_holder x row.holder

-- whether a thread of the process holds the mutex
abbrev pub is_by_process : ℕ → Lockable → Bool
is_by_process p row = option_map_or (λ h. h.thread.process == p) row.holder false

-- whether anybody holds the mutex
abbrev pub is_held : Lockable → Bool
is_held row = is_some row.holder

-- whether anybody holds the mutex, and its ceiling is the level
abbrev pub is_held_at : ℕ → Lockable → Bool
is_held_at level row = (row.ceiling == level) && is_held row

-- whether the thread holds the mutex, and its ceiling is the level
abbrev pub is_by_at : ℕ → ThreadId → Lockable → Bool
is_by_at level x row = (row.ceiling == level) && is_by x row

-- whether another thread holds the mutex, and its ceiling is the level
abbrev pub is_other_at : ℕ → ThreadId → Lockable → Bool
is_other_at level x row = (row.ceiling == level) && (is_held row && not (is_by x row))

abbrev pub is_holder_within : ThreadId → ℕ → Option Holder → Bool
is_holder_within x most None = false
is_holder_within x most (Some h) = is_same x h.thread && nat_le h.left most

-- whether the thread holds the mutex, for at most so many ticks more
abbrev pub is_within : ThreadId → ℕ → Lockable → Bool
is_within x most row = is_holder_within x most row.holder

abbrev pub holder_left : ThreadId → Option Holder → Option ℕ
holder_left x None = None
holder_left x (Some h) = if is_same x h.thread then Some h.left else None

-- for how many ticks more the thread may hold the mutex, where it does
abbrev pub left_of : ThreadId → Lockable → Option ℕ
left_of x row = holder_left x row.holder

-- the mutex's ceiling, where the thread holds it
abbrev pub ceiling_of : ThreadId → Lockable → Option ℕ
ceiling_of x row = if is_by x row then Some row.ceiling else None

-- one tick less for the thread
abbrev pub lowered : ThreadId → Option Holder → Option Holder
lowered x None = None
lowered x (Some h) = if is_same x h.thread then Some (record h { left = h.left - 1 }) else Some h

abbrev pub spent : ThreadId → Lockable → Lockable
spent x row = record row { holder = lowered x row.holder }

-- so many ticks less for the thread
abbrev pub lowered_by : ℕ → ThreadId → Option Holder → Option Holder
lowered_by n x None = None
lowered_by n x (Some h) = if is_same x h.thread then Some (record h { left = h.left - n }) else Some h

-- the mutex once so many ticks of the thread are taken
abbrev pub taken : ℕ → ThreadId → Lockable → Lockable
taken n x row = record row { holder = lowered_by n x row.holder }

-- so many of the ticks as are of the thread
abbrev pub owed_by : ThreadId → ThreadId → ℕ → ℕ
owed_by x debtor owed = if is_same x debtor then owed else 0

-- whether the thread holds the mutex for at most so many ticks more than it owes
abbrev pub is_within_owed : ThreadId → ℕ → ℕ → Lockable → Bool
is_within_owed x most owed row = option_map_or (λ n. nat_le (n - owed) most) (left_of x row) false

abbrev pub freed : ThreadId → Lockable → Lockable
freed x row = record row { holder = if is_by x row then None else row.holder }

-- the lesser of two numbers of which each may be absent
abbrev pub joined : Option ℕ → Option ℕ → Option ℕ
joined None b = b
joined (Some a) None = Some a
joined (Some a) (Some b) = Some (min a b)

-- the least number, and none where all are absent
abbrev pub least : List (Option ℕ) → Option ℕ
least [] = None
least (o ∷ os) = joined o (least os)

-- for how many ticks more the thread may hold the mutex, where it does and the ceiling is at most j, else 0
abbrev pub left_under : ThreadId → ℕ → Lockable → ℕ
left_under x j row = option_map_or (λ n. if nat_le row.ceiling j then n else 0) (left_of x row) 0

-- the greatest of these
abbrev pub left_up_to : ThreadId → ℕ → List Lockable → ℕ
left_up_to x j [] = 0
left_up_to x j (row ∷ rows) = max (left_under x j row) (left_up_to x j rows)

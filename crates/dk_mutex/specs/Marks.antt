-- For each process whether one of its threads may hold a mutex.
use Rattle.std.specs.Prelude.{ℕ, ◌≡◌, Bool, false, true, List, slice_get}
use Rattle.std.specs.List.{list_any}
use Rattle.std.specs.Option.{option_map_or}
use Rattle.dk_trace.specs.declared.ThreadId.{ThreadId}
use Rattle.dk_mutex.specs.declared.row.Lockable.{Lockable}
use Rattle.dk_mutex.specs.Rows.{is_by}

-- whether the thread's process is marked, as one past the end is
abbrev pub may_hold : List Bool → ThreadId → Bool
may_hold marks x = option_map_or (λ marked. marked) (slice_get marks x.process) true

-- a thread whose process isn't marked holds nothing
abbrev pub AreMarked : List Bool → List Lockable → Type 0
AreMarked marks rows = (x : ThreadId) → may_hold marks x ≡ false → list_any (is_by x) rows ≡ false

-- the marks with that of one process anew
pub record IsMarked (process : ℕ) (marked : Bool) (marks after : List Bool) : Type 0 where
  pub own : (x : ThreadId) → x.process ≡ process → may_hold after x ≡ false → marked ≡ false
  pub others : (x : ThreadId) → (x.process ≡ process → ⊥) → may_hold after x ≡ may_hold marks x

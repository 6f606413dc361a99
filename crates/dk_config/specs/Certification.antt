-- Which configurations are accepted.
use Rattle.std.specs.Prelude.{ℕ, ◌+◌, ◌-◌, ◌*◌, ◌/◌, Bool, false, ◌&&◌, ◌||◌, ◌==◌, nat_lt, nat_le, if◌then◌else◌, length, map, filter, sum_by, slice_get, Option, Some, None}
use Rattle.std.specs.List.{list_any}
use Rattle.std.specs.Option.{option_map_or}
use Rattle.std.specs.Str.{bytes_eq}
use Rattle.dk_config.specs.Configuration.{Configuration}
use Rattle.dk_config.specs.Mutex.{Mutex}
use Rattle.dk_config.specs.Sums.{below, sum_up_to, greatest, first_of}
use Rattle.dk_config.specs.Windows.{period, release}
use Rattle.dk_config.specs.declared.rows.ProcessRow.{ProcessRow}

-- the budgets of the level's processes, per window of the level
abbrev pub budgets_at : Configuration → ℕ → ℕ
budgets_at c i = sum_by (λ row. if row.level == i then row.budget else 0) c.processes

-- what the levels up to j can need in one window of level j
abbrev pub level_demand : Configuration → ℕ → ℕ
level_demand c j = sum_up_to j (λ i. (release c i + budgets_at c i) * (period c j / period c i))

abbrev pub uses : Mutex → ProcessRow → Bool
uses mutex row = list_any (bytes_eq row.name) mutex.users

-- whether the process is among the users of mutex m
abbrev pub is_user : Configuration → ℕ → ℕ → Bool
is_user c m p =
    option_map_or (λ mutex. option_map_or (uses mutex) (slice_get c.processes p) false) (slice_get c.mutexes m) false

-- whether a thread slower than level j can hold the mutex at a level up to j
abbrev pub can_block : Configuration → ℕ → Mutex → Bool
can_block c j mutex =
    nat_le mutex.ceiling j
    && list_any (λ row. uses mutex row
    && (nat_lt j row.level || (nat_lt 0 row.threads && nat_lt j row.max_level))) c.processes

-- the longest that level j waits for a slower level's mutex
abbrev pub level_blocking : Configuration → ℕ → ℕ
level_blocking c j = greatest (map (λ mutex. mutex.hold) (filter (can_block c j) c.mutexes))

-- the ticks of a window of level j that nobody can claim
abbrev pub spare : Configuration → ℕ → ℕ
spare c j = period c j - level_demand c j - level_blocking c j

abbrev pub fails_at : Configuration → ℕ → Option ℕ
fails_at c j = if nat_lt (period c j) (level_demand c j + level_blocking c j) then Some j else None

-- the first level that may miss its window, if there is one
abbrev pub first_failing : Configuration → Option ℕ
first_failing c = first_of (fails_at c) (below (length c.levels))

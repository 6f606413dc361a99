-- What a configuration allows and can't be meant, in the order in which it is told.
use Rattle.std.specs.Prelude.{ℕ, ◌+◌, ◌-◌, ◌*◌, ◌==◌, ◌&&◌, Bool, nat_lt, min, if◌then◌else◌, List, [], ◌∷◌, ◌++◌, length, flat_map, find, slice_get, Option, Some, None, option_map, option_to_list}
use Rattle.std.specs.Option.{option_map_or}
use Rattle.dk_config.specs.Configuration.{Configuration}
use Rattle.dk_config.specs.Mutex.{Mutex}
use Rattle.dk_config.specs.declared.rows.ProcessRow.{ProcessRow}
use Rattle.dk_config.specs.Sums.{below}
use Rattle.dk_config.specs.Windows.{budget, ceiling, longest_hold, may_ask, of_mutex as number_of_mutex, slots}
use Rattle.dk_config.specs.Certification.{is_user, spare, uses}
use Rattle.dk_trace.specs.Refusals.{least_share}
use Rattle.dk_warnings.specs.declared.warning.Warning.{Warning}
use Rattle.dk_warnings.specs.declared.warning.Warning.TheVariants as warning
use Rattle.dk_warnings.specs.Warnings.{greatest_child_share, greatest_share}

-- the process may have children, and no child's share has room for both switches and one tick
abbrev pub has_no_child : Configuration → ℕ → Bool
has_no_child c p = nat_lt 0 (slots c p) && nat_lt (greatest_child_share c p) (least_share c)

abbrev pub no_child : Configuration → ℕ → Option Warning
no_child c p = if has_no_child c p then Some (warning.NoChild p) else None

-- what both switches leave of the budget
abbrev pub body : Configuration → ℕ → ℕ
body c p = budget c p - 2 * c.costs.switch

-- it is less than a call takes
abbrev pub short_body : Configuration → ℕ → Option Warning
short_body c p = if nat_lt (body c p) c.costs.call then Some (warning.ShortBody p (body c p)) else None

-- the first level that has no tick to spare
abbrev pub full_level : Configuration → Option ℕ
full_level c = find (λ j. spare c j == 0) (below (length c.levels))

abbrev pub no_spare : Configuration → ℕ → Option Warning
no_spare c p = if may_ask c p then option_map (warning.NoSpare p) (full_level c) else None

-- the least level of those that use the mutex, and this one where none does
abbrev pub fastest_of : Mutex → ℕ → List ProcessRow → ℕ
fastest_of mutex none [] = none
fastest_of mutex none (row ∷ rows) =
    let later = fastest_of mutex none rows in if uses mutex row then min row.level later else later

abbrev pub fastest_user : Configuration → ℕ → ℕ
fastest_user c m = option_map_or (λ mutex. fastest_of mutex (length c.levels) c.processes) (slice_get c.mutexes m) 0

-- no user is as fast as the ceiling
abbrev pub fast_ceiling : Configuration → ℕ → Option Warning
fast_ceiling c m =
    if nat_lt (ceiling c m) (fastest_user c m) then Some (warning.FastCeiling m (fastest_user c m)) else None

abbrev pub user_count : Configuration → ℕ → ℕ
user_count c m = number_of_mutex (λ mutex. length mutex.users) c m

-- the process is the only user, and may have no children
abbrev pub is_own_mutex : Configuration → ℕ → ℕ → Bool
is_own_mutex c m p = is_user c m p && (user_count c m == 1 && slots c p == 0)

abbrev pub own_mutex : Configuration → ℕ → ℕ → Option Warning
own_mutex c m p = if is_own_mutex c m p then Some (warning.OwnMutex m p) else None

-- the longest hold that the greatest share has room for
abbrev pub room : Configuration → ℕ → ℕ
room c p = greatest_share c p - least_share c

-- the hold never fits the user
abbrev pub is_long_hold : Configuration → ℕ → ℕ → Bool
is_long_hold c m p = is_user c m p && nat_lt (greatest_share c p) (longest_hold c m + least_share c)

abbrev pub long_hold : Configuration → ℕ → ℕ → Option Warning
long_hold c m p = if is_long_hold c m p then Some (warning.LongHold m p (room c p)) else None

abbrev pub of_process : Configuration → ℕ → List Warning
of_process c p = option_to_list (no_child c p)
    ++ (option_to_list (short_body c p) ++ option_to_list (no_spare c p))

abbrev pub of_user : Configuration → ℕ → ℕ → List Warning
of_user c m p = option_to_list (own_mutex c m p) ++ option_to_list (long_hold c m p)

abbrev pub of_mutex : Configuration → ℕ → List Warning
of_mutex c m = option_to_list (fast_ceiling c m) ++ flat_map (of_user c m) (below (length c.processes))

-- by processes, and then by mutexes and their users
abbrev pub warnings : Configuration → List Warning
warnings c = flat_map (of_process c) (below (length c.processes)) ++ flat_map (of_mutex c) (below (length c.mutexes))

-- The members of the table that a configuration is printed from.
use Rattle.std.specs.Prelude.{ℕ, ◌≡◌, true, pos, codes, nat_le, ◌&&◌, Bool, List, map}
use Rattle.std.specs.List.{list_all}
use Rattle.std.specs.Ordering.{nat_cmp, match_ordering}
use Rattle.std.specs.Cmp.Lexicographic.{slice_cmp}
use Rattle.toml.specs.Data.{Data, string, integer, boolean, array, table, Members, no_members, member}
use Rattle.toml.specs.View.{items_of}
use Rattle.dk_config.specs.declared.rows.Costs.{Costs}
use Rattle.dk_config.specs.declared.rows.LevelRow.{LevelRow}
use Rattle.dk_config.specs.declared.rows.ProcessRow.{ProcessRow}
use Rattle.dk_config.specs.Mutex.{Mutex}
use Rattle.dk_config.specs.Configuration.{Configuration}

-- the members with this value at the key, in the order of the keys
abbrev pub insert_member : List ℕ → Data → Members → Members
insert_member k d no_members = member k d no_members
insert_member k d (member l e ms) =
    match_ordering (slice_cmp nat_cmp k l) (member k d (member l e ms)) (member l d ms)
    (member l e (insert_member k d ms))

-- a number that is a number of a configuration, as each number of 32 bits is
abbrev pub is_small : ℕ → Bool
is_small n = nat_le n 4294967295

abbrev pub costs_members : Costs → Members
costs_members c =
    member (codes "call") (integer (pos c.call)) (member (codes "switch") (integer (pos c.switch)) no_members)

abbrev pub are_small_costs : Costs → Bool
are_small_costs c = is_small c.switch && is_small c.call

abbrev pub level_members : LevelRow → Members
level_members l =
    member (codes "period") (integer (pos l.period)) (member (codes "release") (integer (pos l.release)) no_members)

abbrev pub is_small_level : LevelRow → Bool
is_small_level l = is_small l.period && is_small l.release

abbrev pub process_members : ProcessRow → Members
process_members p =
    member (codes "budget") (integer (pos p.budget))
    (member (codes "level") (integer (pos p.level))
    (member (codes "max_level") (integer (pos p.max_level))
    (member (codes "memory") (integer (pos p.memory))
    (member (codes "name") (string p.name)
    (member (codes "program") (string p.program)
    (member (codes "slack") (boolean p.slack)
    (member (codes "threads") (integer (pos p.threads)) no_members)))))))

abbrev pub is_small_process : ProcessRow → Bool
is_small_process p =
    (((is_small p.level && is_small p.budget) && is_small p.memory) && is_small p.threads) && is_small p.max_level

abbrev pub mutex_members : Mutex → Members
mutex_members m =
    member (codes "ceiling") (integer (pos m.ceiling))
    (member (codes "hold") (integer (pos m.hold))
    (member (codes "name") (string m.name)
    (member (codes "users") (array (items_of (map string m.users))) no_members)))

abbrev pub is_small_mutex : Mutex → Bool
is_small_mutex m = is_small m.ceiling && is_small m.hold

-- one table for each row
abbrev pub rows_data : {R : Type 0} → (R → Members) → List R → Data
rows_data members rows = array (items_of (map (λ row. table (members row)) rows))

unfoldable pub config_members : Configuration → Members
config_members c =
    member (codes "costs") (table (costs_members c.costs))
    (member (codes "level") (rows_data level_members c.levels)
    (member (codes "mutex") (rows_data mutex_members c.mutexes)
    (member (codes "process") (rows_data process_members c.processes)
    (member (codes "version") (integer (pos c.version)) no_members))))

-- all numbers of the rows are of 32 bits
pub record IsSmall (c : Configuration) : Type 0 where
  pub costs : are_small_costs c.costs ≡ true
  pub levels : list_all is_small_level c.levels ≡ true
  pub processes : list_all is_small_process c.processes ≡ true
  pub mutexes : list_all is_small_mutex c.mutexes ≡ true

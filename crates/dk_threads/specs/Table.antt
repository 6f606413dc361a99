-- The threads of all processes, and what each call changes.
use Rattle.std.specs.Prelude.{ℕ, ◌≡◌, ◌≤◌, ◌+◌, Bool, false, not, ◌==◌, nat_lt, List, [], ◌∷◌, ◌++◌, length, map, filter_map, find, slice_get, slice_set, Option, Some, None, unwrap_or}
use Rattle.std.specs.List.{range_with_len}
use Rattle.std.specs.Option.{option_map_or}
use Rattle.dk_config.specs.declared.TheConstants.{MAX_CHILDREN, MAX_TICKS}
use Rattle.dk_config.specs.Configuration.{Configuration}
use Rattle.dk_config.specs.Sums.{numbers}
use Rattle.dk_config.specs.Windows.{main_level, slots}
use Rattle.dk_trace.specs.declared.ThreadId.{ThreadId}
use Rattle.dk_windows.specs.Clock.{Clock}
use Rattle.dk_threads.specs.declared.row.State.{State}
use Rattle.dk_threads.specs.declared.row.ThreadRow.{ThreadRow}
use Rattle.dk_threads.specs.declared.family.Family.{Family}
use Rattle.dk_threads.specs.Rows.{is_row_of, is_starting, is_stopped, is_taken, started, stopped_child, stopped_with_main, kept, AreChildren}

-- What contracts see of the threads: how many levels there are, and the family of each process.
pub record Table : Type 0 where
  pub levels : ℕ
  pub families : List Family

abbrev pub main_row : Configuration → ℕ → ThreadRow
main_row c p = record {
  id = record { process = p; serial = 0 };
  level = main_level c p;
  slot = 0;
  state = State.Live;
  start = 0;
  end = None;
}

abbrev pub first_family : Configuration → ℕ → Family
first_family c p = record { main = main_row c p; children = []; serials = 0; most = slots c p }

-- each main is live from tick 0 on, and there are no children
abbrev pub table_at_start : Configuration → Table
table_at_start c = record {
  levels = length c.levels;
  families = map (first_family c) (range_with_len 0 (length c.processes));
}

abbrev pub of_family : (Family → ℕ) → Table → ℕ → ℕ
of_family f table p = option_map_or f (slice_get table.families p) 0

-- how many children the process may have at a time
abbrev pub most_at : Table → ℕ → ℕ
most_at table p = of_family (λ family. family.most) table p

-- how many children the process has had
abbrev pub serials_at : Table → ℕ → ℕ
serials_at table p = of_family (λ family. family.serials) table p

abbrev pub children_at : Table → ℕ → List ThreadRow
children_at table p = option_map_or (λ family. family.children) (slice_get table.families p) []

-- the rows of the process: the main's, and its children's by rising serial
abbrev pub rows_of : Table → ℕ → List ThreadRow
rows_of table p = option_map_or (λ family. family.main ∷ family.children) (slice_get table.families p) []

abbrev pub find_row : Table → ThreadId → Option ThreadRow
find_row table x = find (is_row_of x) (rows_of table x.process)

abbrev pub is_running : ThreadRow → Bool
is_running row = not (is_stopped row.state)

-- whether the main hasn't been stopped
abbrev pub stands : Table → ℕ → Bool
stands table p = option_map_or (λ family. is_running family.main) (slice_get table.families p) false

-- whether the thread has a row and hasn't been stopped
abbrev pub runs : Table → ThreadId → Bool
runs table x = option_map_or is_running (find_row table x) false

abbrev pub is_child : ThreadId → Bool
is_child x = not (x.serial == 0)

-- whether the process may have one more child
abbrev pub has_room : Table → ℕ → Bool
has_room table p = nat_lt (length (children_at table p)) (most_at table p)

-- whether the process has had fewer than 4,000,000,000 children
abbrev pub has_serials : Table → ℕ → Bool
has_serials table p = nat_lt (serials_at table p) MAX_TICKS

-- the lowest slot of a child that no row has
unfoldable pub free_slot : List ThreadRow → ℕ
free_slot rows = unwrap_or (find (λ slot. not (is_taken rows slot)) (numbers 1 MAX_CHILDREN)) 0

abbrev pub next_id : Table → ℕ → ThreadId
next_id table p = record { process = p; serial = serials_at table p + 1 }

-- the row of a new child
abbrev pub new_row : ThreadId → ℕ → ℕ → ℕ → ThreadRow
new_row x level slot start = record {
  id = x;
  level = level;
  slot = slot;
  state = State.Starting;
  start = start;
  end = None;
}

abbrev pub begun : ℕ → ℕ → ℕ → Family → Family
begun p level start family = record family {
  children = family.children
      ++ new_row (record { process = p; serial = family.serials + 1 }) level (free_slot family.children) start ∷ [];
  serials = family.serials + 1;
}

abbrev pub family_started : ℕ → Family → Family
family_started now family = record family { children = map (started now) family.children }

abbrev pub child_stopped : ThreadId → Clock → Family → Family
child_stopped x clock family = record family { children = filter_map (stopped_child x clock) family.children }

abbrev pub all_stopped : Clock → Family → Family
all_stopped clock family = record family {
  main = record family.main { state = State.Stopped };
  children = filter_map (stopped_with_main clock) family.children;
}

abbrev pub family_ended : ℕ → Family → Family
family_ended now family = record family { children = filter_map (kept now) family.children }

-- the table with another family of that process, and those of all other processes as they are
abbrev pub changed_at : (Family → Family) → ℕ → Table → Table
changed_at change p table = record table {
  families = option_map_or (λ family. slice_set table.families p (change family))
      (slice_get table.families p) table.families;
}

abbrev pub changed_all : (Family → Family) → Table → Table
changed_all change table = record table { families = map change table.families }

-- What every family keeps: its main has slot 0 and no end and is never starting; its children stand by rising
-- serial, among the serials given, on levels that there are, and no two rows have one slot.
pub record IsFamily (levels : ℕ) (family : Family) : Type 0 where
  pub main_slot : family.main.slot ≡ 0
  pub main_serial : family.main.id.serial ≡ 0
  pub main_end : family.main.end ≡ None
  pub main_state : is_starting family.main.state ≡ false
  pub room : length family.children ≤ family.most
  pub few : family.most ≤ MAX_CHILDREN
  pub children : AreChildren levels 0 family.serials family.children

abbrev pub AreFamilies : ℕ → List Family → Type 0
AreFamilies levels families = (p : ℕ) (family : Family) → slice_get families p ≡ Some family → IsFamily levels family

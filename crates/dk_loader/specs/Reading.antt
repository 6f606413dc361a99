-- The configuration that a document stands for, or the first rule that it breaks.
use Rattle.std.specs.Prelude.{ℕ, ◌-◌, ◌<◌, ◌^◌, Bool, false, codes, length, map, List, [], ◌++◌, Option, Some, None, Result, Ok, Err, unwrap_or, if◌then◌else◌}
use Rattle.std.specs.Option.{option_map_or}
use Rattle.std.specs.Str.{is_utf8}
use Rattle.toml.specs.Data.{Data, as_table, as_str, as_bool, Members, no_members, get_member}
use Rattle.toml.specs.Parse.{parse_document}
use Rattle.dk_config.specs.declared.rows.Costs.{Costs}
use Rattle.dk_config.specs.declared.rows.LevelRow.{LevelRow}
use Rattle.dk_config.specs.declared.rows.ProcessRow.{ProcessRow}
use Rattle.dk_config.specs.declared.fault.ConfigFault.{ConfigFault}
use Rattle.dk_config.specs.Mutex.{Mutex}
use Rattle.dk_config.specs.Configuration.{Configuration}
use Rattle.dk_config.specs.Tests.{first_broken}
use Rattle.dk_config.specs.Rules.{all_tests}
use Rattle.dk_loader.specs.declared.fault.LoadFault.{LoadFault}
use Rattle.dk_loader.specs.declared.fault.LoadFault.TheVariants as fault
use Rattle.dk_loader.specs.Look.{number_at, rows_at}
use Rattle.dk_loader.specs.Shape.{shape_tests}

-- bytes that aren't UTF-8 are no document
unfoldable pub document : List ℕ → Option Members
document bytes = if is_utf8 bytes then parse_document bytes else None

abbrev pub text_of : Data → List ℕ
text_of d = unwrap_or (as_str d) []

abbrev pub text_at : List ℕ → Members → List ℕ
text_at key ms = option_map_or text_of (get_member key ms) []

abbrev pub flag_at : List ℕ → Members → Bool
flag_at key ms = option_map_or (λ d. unwrap_or (as_bool d) false) (get_member key ms) false

abbrev pub table_of : Data → Members
table_of d = unwrap_or (as_table d) no_members

abbrev pub table_at : List ℕ → Members → Members
table_at key ms = option_map_or table_of (get_member key ms) no_members

abbrev pub costs_in : Members → Costs
costs_in ms = record { switch = number_at (codes "switch") 0 ms; call = number_at (codes "call") 1 ms }

abbrev pub level_in : Members → LevelRow
level_in ms = record { period = number_at (codes "period") 0 ms; release = number_at (codes "release") 0 ms }

abbrev pub process_in : ℕ → Members → ProcessRow
process_in last ms = record {
  name = text_at (codes "name") ms;
  program = text_at (codes "program") ms;
  level = number_at (codes "level") 0 ms;
  budget = number_at (codes "budget") 0 ms;
  memory = number_at (codes "memory") 0 ms;
  threads = number_at (codes "threads") 0 ms;
  slack = flag_at (codes "slack") ms;
  max_level = number_at (codes "max_level") last ms;
}

abbrev pub mutex_in : Members → Mutex
mutex_in ms = record {
  name = text_at (codes "name") ms;
  ceiling = number_at (codes "ceiling") 0 ms;
  hold = number_at (codes "hold") 0 ms;
  users = map text_of (rows_at (codes "users") ms);
}

-- what the table stands for, where its values are of their kinds
unfoldable pub config_of : Members → Configuration
config_of ms = record {
  version = number_at (codes "version") 0 ms;
  costs = costs_in (table_at (codes "costs") ms);
  levels = map (λ d. level_in (table_of d)) (rows_at (codes "level") ms);
  processes = map (λ d. process_in (length (rows_at (codes "level") ms) - 1) (table_of d))
      (rows_at (codes "process") ms);
  mutexes = map (λ d. mutex_in (table_of d)) (rows_at (codes "mutex") ms);
}

abbrev pub answer_of : Configuration → Option ConfigFault → Result Configuration LoadFault
answer_of config None = Ok config
answer_of config (Some f) = Err (fault.Config f)

-- the configuration, or the first rule that is broken
unfoldable pub reading_of : Members → Result Configuration LoadFault
reading_of ms = answer_of (config_of ms) (first_broken (shape_tests ms ++ all_tests (config_of ms)))

abbrev pub reading_from : Option Members → Result Configuration LoadFault
reading_from None = Err fault.NotToml
reading_from (Some ms) = reading_of ms

unfoldable pub reading : List ℕ → Result Configuration LoadFault
reading bytes = reading_from (document bytes)

-- the configuration whatever of C4 to C13 it breaks, or the first of the rules C1 to C3 that is broken
unfoldable pub shaped_of : Members → Result Configuration LoadFault
shaped_of ms = answer_of (config_of ms) (first_broken (shape_tests ms))

abbrev pub shaped_from : Option Members → Result Configuration LoadFault
shaped_from None = Err fault.NotToml
shaped_from (Some ms) = shaped_of ms

unfoldable pub shaped : List ℕ → Result Configuration LoadFault
shaped bytes = shaped_from (document bytes)

-- so few rows that 32 bits count them
pub record HasCountedRows (c : Configuration) : Type 0 where
  pub levels : length c.levels < 2 ^ 32
  pub processes : length c.processes < 2 ^ 32
  pub mutexes : length c.mutexes < 2 ^ 32

-- what reading a configuration answers in place of one
abbrev pub IsReadFault : LoadFault → Type 0
IsReadFault fault.NotToml = Unit {0}
IsReadFault (fault.Config f) = Unit {0}
IsReadFault fault.Depot = ⊥
IsReadFault (fault.TooLong p) = ⊥
IsReadFault fault.NoMemory = Unit {0}

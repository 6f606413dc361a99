-- The keys of each section, and what is tested of them: the same tests as in `Shape`, by one rule and one section.
use Rattle.std.specs.Prelude.{ℕ, Bool, true, false, not, is_none, codes, List, [], ◌∷◌, ◌++◌, ◌<◌, ◌^◌, length}
use Rattle.std.specs.Option.{option_map_or}
use Rattle.toml.specs.Data.{Data, as_table, as_str, as_bool, as_array, Members, get_member}
use Rattle.dk_config.specs.declared.fault.Section.{Section}
use Rattle.dk_config.specs.declared.fault.Section.TheVariants as section
use Rattle.dk_config.specs.declared.fault.Field.{Field}
use Rattle.dk_config.specs.declared.fault.Field.TheVariants as field
use Rattle.dk_config.specs.Tests.{Test, each_row, test_of}
use Rattle.dk_loader.specs.declared.keys.Version.{Version}
use Rattle.dk_loader.specs.declared.keys.Version.TheVariants as version
use Rattle.dk_loader.specs.declared.shape.Rule.{Rule}
use Rattle.dk_loader.specs.declared.shape.Rule.TheVariants as rule
use Rattle.dk_loader.specs.Look.{as_number, all_texts, has_unknown, is_missing, rows_at}
use Rattle.dk_loader.specs.Shape.{top_keys, costs_keys, level_keys, process_keys, mutex_keys, in_table_at}

abbrev pub key_name : Field → List ℕ
key_name field.Version = codes "version"
key_name field.Costs = codes "costs"
key_name field.Level = codes "level"
key_name field.Process = codes "process"
key_name field.Mutex = codes "mutex"
key_name field.Switch = codes "switch"
key_name field.Call = codes "call"
key_name field.Period = codes "period"
key_name field.Release = codes "release"
key_name field.Name = codes "name"
key_name field.Program = codes "program"
key_name field.Budget = codes "budget"
key_name field.Memory = codes "memory"
key_name field.Threads = codes "threads"
key_name field.Slack = codes "slack"
key_name field.MaxLevel = codes "max_level"
key_name field.Ceiling = codes "ceiling"
key_name field.Hold = codes "hold"
key_name field.Users = codes "users"
key_name field.Unknown = []

abbrev pub process_fields : Version → List Field
process_fields version.One =
    field.Name ∷ field.Program ∷ field.Level ∷ field.Budget ∷ field.Memory ∷ field.Threads ∷ field.Slack ∷ []
process_fields version.Two =
    field.Name ∷ field.Program ∷ field.Level ∷ field.Budget ∷ field.Memory ∷ field.Threads ∷ field.Slack
    ∷ field.MaxLevel ∷ []

-- the keys that a section may have
abbrev pub key_fields : Section → Version → List Field
key_fields section.Top v = field.Version ∷ field.Costs ∷ field.Level ∷ field.Process ∷ field.Mutex ∷ []
key_fields section.Costs v = field.Switch ∷ field.Call ∷ []
key_fields section.Level v = field.Period ∷ field.Release ∷ []
key_fields section.Process v = process_fields v
key_fields section.Mutex v = field.Name ∷ field.Ceiling ∷ field.Hold ∷ field.Users ∷ []

abbrev pub key_names : Section → Version → List (List ℕ)
key_names section.Top v = top_keys
key_names section.Costs v = costs_keys
key_names section.Level v = level_keys
key_names section.Process v = process_keys v
key_names section.Mutex v = mutex_keys

-- the keys that a section must have
abbrev pub needed_fields : Section → List Field
needed_fields section.Top = field.Version ∷ field.Level ∷ field.Process ∷ []
needed_fields section.Costs = []
needed_fields section.Level = field.Period ∷ []
needed_fields section.Process = field.Name ∷ field.Program ∷ field.Level ∷ field.Budget ∷ []
needed_fields section.Mutex = field.Name ∷ field.Ceiling ∷ field.Hold ∷ field.Users ∷ []

-- the rows of the whole document, and a number of a process
abbrev pub is_unfit_level : Section → Data → Bool
is_unfit_level section.Top d = is_none (as_array d)
is_unfit_level _ d = is_none (as_number d)

-- a value of the wrong kind
abbrev pub is_unfit : Section → Field → Data → Bool
is_unfit s field.Name d = is_none (as_str d)
is_unfit s field.Program d = is_none (as_str d)
is_unfit s field.Slack d = is_none (as_bool d)
is_unfit s field.Users d = not (option_map_or all_texts (as_array d) false)
is_unfit s field.Costs d = is_none (as_table d)
is_unfit s field.Process d = is_none (as_array d)
is_unfit s field.Mutex d = is_none (as_array d)
is_unfit s field.Level d = is_unfit_level s d
is_unfit s _ d = is_none (as_number d)

abbrev pub is_wrong : Section → Field → Members → Bool
is_wrong s f ms = option_map_or (is_unfit s f) (get_member (key_name f) ms) false

abbrev pub rule_number : Rule → ℕ
rule_number rule.Unknown = 1
rule_number rule.Missing = 2
rule_number rule.Wrong = 3

-- what a rule tests one by one
abbrev pub tested_fields : Rule → Section → List Field
tested_fields rule.Unknown s = field.Unknown ∷ []
tested_fields rule.Missing s = needed_fields s
tested_fields rule.Wrong s = key_fields s version.Two

abbrev pub breaks : Rule → Section → Version → Field → Members → Bool
breaks rule.Unknown s v f ms = has_unknown (key_names s v) ms
breaks rule.Missing s v f ms = is_missing (key_name f) ms
breaks rule.Wrong s v f ms = is_wrong s f ms

abbrev pub field_tests : Rule → Section → Version → ℕ → Members → Field → List Test
field_tests r s v i ms f = test_of (rule_number r) s i f (breaks r s v f ms) ∷ []

abbrev pub table_tests : Rule → Section → Version → ℕ → Members → List Test
table_tests r s v i ms = each_row (λ _ f. field_tests r s v i ms f) 0 (tested_fields r s)

abbrev pub first_field : Section → Field
first_field section.Level = field.Period
first_field _ = field.Name

-- a row that is no table is of the wrong kind
abbrev pub no_table_tests : Rule → Section → ℕ → List Test
no_table_tests rule.Wrong s i = test_of 3 s i (first_field s) true ∷ []
no_table_tests _ s i = []

abbrev pub row_tests : Rule → Section → Version → ℕ → Data → List Test
row_tests r s v i d = option_map_or (table_tests r s v i) (as_table d) (no_table_tests r s i)

abbrev pub rows_tests : Rule → Section → Version → List ℕ → Members → List Test
rows_tests r s v key ms = each_row (row_tests r s v) 0 (rows_at key ms)

abbrev pub section_tests : Rule → Section → Version → Members → List Test
section_tests r section.Top v ms = table_tests r section.Top v 0 ms
section_tests r section.Costs v ms = in_table_at (table_tests r section.Costs v 0) (codes "costs") ms
section_tests r section.Level v ms = rows_tests r section.Level v (codes "level") ms
section_tests r section.Process v ms = rows_tests r section.Process v (codes "process") ms
section_tests r section.Mutex v ms = rows_tests r section.Mutex v (codes "mutex") ms

-- each section by one rule
unfoldable pub rule_tests : Rule → Version → Members → List Test
rule_tests r v ms =
    section_tests r section.Top v ms ++ (section_tests r section.Costs v ms
    ++ (section_tests r section.Level v ms
    ++ (section_tests r section.Process v ms ++ section_tests r section.Mutex v ms)))

-- no more rows than a number of 32 bits counts
pub record HasFewRows (ms : Members) : Type 0 where
  pub levels : length (rows_at (codes "level") ms) < 2 ^ 32
  pub processes : length (rows_at (codes "process") ms) < 2 ^ 32
  pub mutexes : length (rows_at (codes "mutex") ms) < 2 ^ 32

-- What a table has to be before its values are looked at: no unknown key, no key missing, each value of its kind.
use Rattle.std.specs.Prelude.{ℕ, true, codes, List, [], ◌∷◌, ◌++◌}
use Rattle.std.specs.Option.{option_map_or}
use Rattle.toml.specs.Data.{Data, as_table, Members, get_member}
use Rattle.dk_config.specs.declared.fault.Section.TheVariants as section
use Rattle.dk_config.specs.declared.fault.Field.TheVariants as field
use Rattle.dk_config.specs.Tests.{Test, each_row, test_of}
use Rattle.dk_loader.specs.declared.keys.Version.{Version}
use Rattle.dk_loader.specs.declared.keys.Version.TheVariants as version
use Rattle.dk_loader.specs.Look.{is_missing, is_wrong_number, is_wrong_text, is_wrong_flag, is_wrong_texts, is_wrong_rows, is_wrong_table, has_unknown, rows_at, version_of}

-- the keys of each section
abbrev pub top_keys : List (List ℕ)
top_keys = codes "version" ∷ codes "costs" ∷ codes "level" ∷ codes "process" ∷ codes "mutex" ∷ []

abbrev pub costs_keys : List (List ℕ)
costs_keys = codes "switch" ∷ codes "call" ∷ []

abbrev pub level_keys : List (List ℕ)
level_keys = codes "period" ∷ codes "release" ∷ []

abbrev pub process_keys : Version → List (List ℕ)
process_keys version.One =
    codes "name" ∷ codes "program" ∷ codes "level" ∷ codes "budget" ∷ codes "memory" ∷ codes "threads"
    ∷ codes "slack" ∷ []
process_keys version.Two =
    codes "name" ∷ codes "program" ∷ codes "level" ∷ codes "budget" ∷ codes "memory" ∷ codes "threads"
    ∷ codes "slack" ∷ codes "max_level" ∷ []

abbrev pub mutex_keys : List (List ℕ)
mutex_keys = codes "name" ∷ codes "ceiling" ∷ codes "hold" ∷ codes "users" ∷ []

-- the tests of a table, and none of another value
abbrev pub in_table : (Members → List Test) → Data → List Test
in_table tests d = option_map_or tests (as_table d) []

abbrev pub in_table_at : (Members → List Test) → List ℕ → Members → List Test
in_table_at tests key ms = option_map_or (in_table tests) (get_member key ms) []

-- 1: unknown keys
abbrev pub top_unknown : Members → List Test
top_unknown ms = test_of 1 section.Top 0 field.Unknown (has_unknown top_keys ms) ∷ []

abbrev pub costs_unknown : Members → List Test
costs_unknown ms = test_of 1 section.Costs 0 field.Unknown (has_unknown costs_keys ms) ∷ []

abbrev pub level_unknown : ℕ → Members → List Test
level_unknown i ms = test_of 1 section.Level i field.Unknown (has_unknown level_keys ms) ∷ []

abbrev pub process_unknown : Version → ℕ → Members → List Test
process_unknown v i ms = test_of 1 section.Process i field.Unknown (has_unknown (process_keys v) ms) ∷ []

abbrev pub mutex_unknown : ℕ → Members → List Test
mutex_unknown i ms = test_of 1 section.Mutex i field.Unknown (has_unknown mutex_keys ms) ∷ []

unfoldable pub unknown_tests : Members → List Test
unknown_tests ms =
    top_unknown ms ++ (in_table_at costs_unknown (codes "costs") ms
    ++ (each_row (λ i d. in_table (level_unknown i) d) 0 (rows_at (codes "level") ms)
    ++ (each_row (λ i d. in_table (process_unknown (version_of ms) i) d) 0 (rows_at (codes "process") ms)
    ++ each_row (λ i d. in_table (mutex_unknown i) d) 0 (rows_at (codes "mutex") ms))))

-- 2: keys that are missing
abbrev pub top_missing : Members → List Test
top_missing ms = test_of 2 section.Top 0 field.Version (is_missing (codes "version") ms)
    ∷ test_of 2 section.Top 0 field.Level (is_missing (codes "level") ms)
    ∷ test_of 2 section.Top 0 field.Process (is_missing (codes "process") ms)
    ∷ []

abbrev pub level_missing : ℕ → Members → List Test
level_missing i ms = test_of 2 section.Level i field.Period (is_missing (codes "period") ms)
    ∷ []

abbrev pub process_missing : ℕ → Members → List Test
process_missing i ms = test_of 2 section.Process i field.Name (is_missing (codes "name") ms)
    ∷ test_of 2 section.Process i field.Program (is_missing (codes "program") ms)
    ∷ test_of 2 section.Process i field.Level (is_missing (codes "level") ms)
    ∷ test_of 2 section.Process i field.Budget (is_missing (codes "budget") ms)
    ∷ []

abbrev pub mutex_missing : ℕ → Members → List Test
mutex_missing i ms = test_of 2 section.Mutex i field.Name (is_missing (codes "name") ms)
    ∷ test_of 2 section.Mutex i field.Ceiling (is_missing (codes "ceiling") ms)
    ∷ test_of 2 section.Mutex i field.Hold (is_missing (codes "hold") ms)
    ∷ test_of 2 section.Mutex i field.Users (is_missing (codes "users") ms)
    ∷ []

unfoldable pub missing_tests : Members → List Test
missing_tests ms =
    top_missing ms ++ (each_row (λ i d. in_table (level_missing i) d) 0 (rows_at (codes "level") ms)
    ++ (each_row (λ i d. in_table (process_missing i) d) 0 (rows_at (codes "process") ms)
    ++ each_row (λ i d. in_table (mutex_missing i) d) 0 (rows_at (codes "mutex") ms)))

-- 3: values of another kind
unfoldable pub top_wrong : Members → List Test
top_wrong ms = test_of 3 section.Top 0 field.Version (is_wrong_number (codes "version") ms)
    ∷ test_of 3 section.Top 0 field.Costs (is_wrong_table (codes "costs") ms)
    ∷ test_of 3 section.Top 0 field.Level (is_wrong_rows (codes "level") ms)
    ∷ test_of 3 section.Top 0 field.Process (is_wrong_rows (codes "process") ms)
    ∷ test_of 3 section.Top 0 field.Mutex (is_wrong_rows (codes "mutex") ms)
    ∷ []

abbrev pub costs_wrong : Members → List Test
costs_wrong ms = test_of 3 section.Costs 0 field.Switch (is_wrong_number (codes "switch") ms)
    ∷ test_of 3 section.Costs 0 field.Call (is_wrong_number (codes "call") ms)
    ∷ []

abbrev pub level_wrong : ℕ → Members → List Test
level_wrong i ms = test_of 3 section.Level i field.Period (is_wrong_number (codes "period") ms)
    ∷ test_of 3 section.Level i field.Release (is_wrong_number (codes "release") ms)
    ∷ []

abbrev pub level_row_wrong : ℕ → Data → List Test
level_row_wrong i d = option_map_or (level_wrong i) (as_table d) (test_of 3 section.Level i field.Period true ∷ [])

abbrev pub process_wrong : ℕ → Members → List Test
process_wrong i ms = test_of 3 section.Process i field.Name (is_wrong_text (codes "name") ms)
    ∷ test_of 3 section.Process i field.Program (is_wrong_text (codes "program") ms)
    ∷ test_of 3 section.Process i field.Level (is_wrong_number (codes "level") ms)
    ∷ test_of 3 section.Process i field.Budget (is_wrong_number (codes "budget") ms)
    ∷ test_of 3 section.Process i field.Memory (is_wrong_number (codes "memory") ms)
    ∷ test_of 3 section.Process i field.Threads (is_wrong_number (codes "threads") ms)
    ∷ test_of 3 section.Process i field.Slack (is_wrong_flag (codes "slack") ms)
    ∷ test_of 3 section.Process i field.MaxLevel (is_wrong_number (codes "max_level") ms)
    ∷ []

abbrev pub process_row_wrong : ℕ → Data → List Test
process_row_wrong i d = option_map_or (process_wrong i) (as_table d) (test_of 3 section.Process i field.Name true ∷ [])

abbrev pub mutex_wrong : ℕ → Members → List Test
mutex_wrong i ms = test_of 3 section.Mutex i field.Name (is_wrong_text (codes "name") ms)
    ∷ test_of 3 section.Mutex i field.Ceiling (is_wrong_number (codes "ceiling") ms)
    ∷ test_of 3 section.Mutex i field.Hold (is_wrong_number (codes "hold") ms)
    ∷ test_of 3 section.Mutex i field.Users (is_wrong_texts (codes "users") ms)
    ∷ []

abbrev pub mutex_row_wrong : ℕ → Data → List Test
mutex_row_wrong i d = option_map_or (mutex_wrong i) (as_table d) (test_of 3 section.Mutex i field.Name true ∷ [])

unfoldable pub wrong_tests : Members → List Test
wrong_tests ms =
    top_wrong ms ++ (in_table_at costs_wrong (codes "costs") ms
    ++ (each_row level_row_wrong 0 (rows_at (codes "level") ms)
    ++ (each_row process_row_wrong 0 (rows_at (codes "process") ms)
    ++ each_row mutex_row_wrong 0 (rows_at (codes "mutex") ms))))

unfoldable pub shape_tests : Members → List Test
shape_tests ms = unknown_tests ms ++ (missing_tests ms ++ wrong_tests ms)

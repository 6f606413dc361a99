-- What stands in a document at a section, a row and a key.
use Rattle.std.specs.Prelude.{ℕ, ◌==◌, Bool, true, false, codes, List, [], ◌∷◌, flat_map, Option, Some, None, option_and_then, slice_get, if◌then◌else◌}
use Rattle.std.specs.Option.{option_map_or}
use Rattle.std.specs.List.{list_any}
use Rattle.std.specs.Str.{bytes_eq}
use Rattle.toml.specs.Data.{Data, as_table, Members, get_member}
use Rattle.dk_config.specs.declared.fault.ConfigFault.{ConfigFault}
use Rattle.dk_config.specs.declared.fault.Section.{Section}
use Rattle.dk_config.specs.declared.fault.Section.TheVariants as section
use Rattle.dk_loader.specs.declared.keys.Version.{Version}
use Rattle.dk_loader.specs.declared.keys.Version.TheVariants as version
use Rattle.dk_loader.specs.Keys.{key_fields, key_name}
use Rattle.dk_loader.specs.Look.{keys_of, number_at, rows_at}

abbrev pub is_top : Section → Bool
is_top section.Top = true
is_top _ = false

-- what stands in a row; the document itself is none
abbrev pub row_in : Section → ℕ → Members → Option Data
row_in section.Top i ms = None
row_in section.Costs i ms = get_member (codes "costs") ms
row_in section.Level i ms = slice_get (rows_at (codes "level") ms) i
row_in section.Process i ms = slice_get (rows_at (codes "process") ms) i
row_in section.Mutex i ms = slice_get (rows_at (codes "mutex") ms) i

-- the table of a section: the document itself, the costs, or a row that is a table
abbrev pub table_in : Section → ℕ → Members → Option Members
table_in s i ms = if is_top s then Some ms else option_and_then as_table (row_in s i ms)

-- by the keys of version 2
abbrev pub is_second : Members → Bool
is_second ms = number_at (codes "version") 0 ms == 2

abbrev pub version_by : Bool → Version
version_by second = if second then version.Two else version.One

-- whether the section takes a key of this name
abbrev pub is_key : Section → Bool → List ℕ → Bool
is_key s second k = list_any (λ f. bytes_eq (key_name f) k) (key_fields s (version_by second))

-- the keys of a section's table, in the order of their bytes
abbrev pub keys_in : Section → ℕ → Members → List (List ℕ)
keys_in s i ms = option_map_or keys_of (table_in s i ms) []

-- one thing that is wrong: the test that fails, and of an unknown key its name
pub record Told : Type 0 where
  pub fault : ConfigFault
  pub key : List ℕ

abbrev pub told_unknown : ConfigFault → List ℕ → Told
told_unknown f k = record { fault = f; key = k }

abbrev pub if_unknown : ConfigFault → Bool → List ℕ → List Told
if_unknown f second k = if is_key f.section second k then [] else (told_unknown f k ∷ [])

-- a test that fails is told, whatever is found of it
abbrev pub or_itself : ConfigFault → List Told → List Told
or_itself f [] = told_unknown f [] ∷ []
or_itself f (t ∷ ts) = t ∷ ts

-- of keys that are unknown each by itself
abbrev pub keys_told : Members → ConfigFault → List Told
keys_told ms f = if f.number == 1 then flat_map (if_unknown f (is_second ms)) (keys_in f.section f.row ms) else []

abbrev pub told_of : Members → ConfigFault → List Told
told_of ms f = or_itself f (keys_told ms f)

-- each thing that is wrong, of these tests that fail
abbrev pub told_all : Members → List ConfigFault → List Told
told_all ms found = flat_map (told_of ms) found

-- What a document of needs has in a row and at a key, and each thing that is wrong there.
use Rattle.std.specs.Prelude.{ℕ, List, [], ◌∷◌, flat_map, Option, Some, None, option_and_then, slice_get, if◌then◌else◌}
use Rattle.std.specs.Option.{option_map_or}
use Rattle.toml.specs.Data.{Data, as_table, Members}
use Rattle.dk_loader.specs.Look.{keys_of, rows_at}
use Rattle.dk_needs.specs.declared.fault.Fault.{Fault}
use Rattle.dk_needs.specs.declared.fault.Place.{Place}
use Rattle.dk_needs.specs.declared.fault.Key.{Key}
use Rattle.dk_needs.specs.declared.fault.Key.TheVariants as key
use Rattle.dk_needs.specs.declared.fault.Why.{Why}
use Rattle.dk_needs.specs.declared.fault.Why.TheVariants as why
use Rattle.dk_needs.specs.Keys.{form_of, key_name, needed_keys, other_keys, section_key, top_keys}
use Rattle.dk_needs.specs.Shape.{is_known}

-- what stands in a row; the document itself is none
abbrev pub row_at : Option Place → Members → Option Data
row_at None ms = None
row_at (Some p) ms = slice_get (rows_at (key_name (section_key p.section)) ms) p.row

-- the document itself, or a row that is a table
abbrev pub table_at : Option Place → Members → Option Members
table_at None ms = Some ms
table_at (Some p) ms = option_and_then as_table (row_at (Some p) ms)

-- the keys that the table there must have
abbrev pub needed_at : Option Place → Members → List Key
needed_at None t = key.Version ∷ []
needed_at (Some p) t = needed_keys (form_of p.section t)

-- those that it may have beside these
abbrev pub others_at : Option Place → Members → List Key
others_at None t = top_keys
others_at (Some p) t = other_keys (form_of p.section t)

-- one thing that is wrong: the fault, and of an unknown key its name
pub record Told : Type 0 where
  pub fault : Fault
  pub key : List ℕ

abbrev pub told_key : Fault → List ℕ → Told
told_key f k = record { fault = f; key = k }

abbrev pub if_unknown : Fault → Members → List ℕ → List Told
if_unknown f t k = if is_known (needed_at f.place t) (others_at f.place t) k then [] else (told_key f k ∷ [])

abbrev pub unknown_in : Fault → Members → List Told
unknown_in f t = flat_map (if_unknown f t) (keys_of t)

abbrev pub keys_told : Members → Fault → List Told
keys_told ms f = option_map_or (unknown_in f) (table_at f.place ms) []

-- a fault is told, whatever is found of it
abbrev pub or_itself : Fault → List Told → List Told
or_itself f [] = told_key f [] ∷ []
or_itself f (t ∷ ts) = t ∷ ts

abbrev pub told_by : Why → Members → Fault → List Told
told_by why.Unknown ms f = or_itself f (keys_told ms f)
told_by _ ms f = told_key f [] ∷ []

-- of keys that are unknown each by itself
abbrev pub told_of : Members → Fault → List Told
told_of ms f = told_by f.why ms f

-- each thing that is wrong, of these faults
abbrev pub told_all : Members → List Fault → List Told
told_all ms found = flat_map (told_of ms) found

-- What is wrong at a key of a document of needs, in words.
use Rattle.std.specs.Prelude.{ℕ, Bool, codes, decimal, flat_map, is_some, List, [], ◌∷◌, ◌++◌, Option, Some, None, if◌then◌else◌}
use Rattle.std.specs.Option.{option_map_or}
use Rattle.toml.specs.Data.{Data, as_bool, get_member, Members}
use Rattle.dk_config.specs.declared.fault.Field.TheVariants as field
use Rattle.dk_document_report.specs.Reasons.{kind_at, kind_text, shown_key}
use Rattle.dk_needs.specs.declared.fault.Fault.{Fault}
use Rattle.dk_needs.specs.declared.fault.Place.{Place}
use Rattle.dk_needs.specs.declared.fault.Key.{Key}
use Rattle.dk_needs.specs.declared.fault.Why.{Why}
use Rattle.dk_needs.specs.declared.fault.Why.TheVariants as why
use Rattle.dk_needs.specs.declared.keys.Shape.{Shape}
use Rattle.dk_needs.specs.Keys.{key_name, section_key, shape_of}
use Rattle.dk_needs_report.specs.Found.{Told, needed_at, others_at, row_at, table_at}

-- the row, by its section and its number there
abbrev pub row_text : Option Place → List ℕ
row_text None = []
row_text (Some p) = key_name (section_key p.section) ++ (codes " " ++ (decimal p.row ++ codes " "))

abbrev pub fault_head : Fault → List ℕ
fault_head f = codes "needs: " ++ (row_text f.place ++ key_name f.key)

-- what a key takes
abbrev pub wanted_text : Shape → List ℕ
wanted_text (Shape.Number least most) = codes "a number from " ++ (decimal least ++ (codes " to " ++ (decimal most ++ codes " is wanted")))
wanted_text Shape.Id = codes "1 to 32 letters, digits, dots, _ and - are wanted"
wanted_text Shape.Name = codes "a name is wanted, 1 to 16 of a to z, 0 to 9 and _ from a letter on"
wanted_text Shape.Names = codes "1 to 32 names of processes are wanted"
wanted_text Shape.True = codes "true is wanted"
wanted_text Shape.Tick = codes "a number from 1 to 999999 with ns, us, ms or s is wanted"
wanted_text Shape.Rows = codes "up to 256 rows are wanted, each a table"

-- a row that is no table is to be one
abbrev pub wanted_at : Option Place → Key → Members → List ℕ
wanted_at p k ms = if is_some (table_at p ms) then wanted_text (shape_of k) else codes "a table is wanted"

-- the value that isn't taken: that of the key, or the row where it is no table
abbrev pub value_at : Option Place → Key → Members → Option Data
value_at p k ms = option_map_or (λ t. get_member (key_name k) t) (table_at p ms) (row_at p ms)

abbrev pub flag_text : Bool → List ℕ
flag_text b = if b then codes "true" else codes "false"

-- what stands where such values are wanted
abbrev pub found_text : Shape → Data → List ℕ
found_text Shape.Names d = kind_at field.Users d
found_text Shape.True d = option_map_or flag_text (as_bool d) (kind_text d)
found_text _ d = kind_text d

abbrev pub this_is : Shape → Option Data → List ℕ
this_is s None = []
this_is s (Some d) = codes ", this is " ++ found_text s d

-- of a value of another kind, and of a number that is out of its range
abbrev pub found_at : Why → Shape → Option Data → List ℕ
found_at why.Kind s v = this_is s v
found_at why.Range s v = this_is s v
found_at _ s v = []

abbrev pub wrong_text : Members → Fault → List ℕ
wrong_text ms f = wanted_at f.place f.key ms ++ found_at f.why (shape_of f.key) (value_at f.place f.key ms)

abbrev pub missing_text : Fault → List ℕ
missing_text f = codes "it is missing, " ++ wanted_text (shape_of f.key)

abbrev pub after_comma : Key → List ℕ
after_comma k = codes ", " ++ key_name k

abbrev pub names_text : List Key → List ℕ
names_text [] = []
names_text (k ∷ ks) = key_name k ++ flat_map after_comma ks

-- all keys that a table takes
abbrev pub keys_text : List Key → List Key → List ℕ
keys_text needed others = names_text needed ++ flat_map after_comma others

abbrev pub keys_at : Option Place → Members → List ℕ
keys_at p ms = option_map_or (λ t. keys_text (needed_at p t) (others_at p t)) (table_at p ms) []

abbrev pub unknown_text : Members → Told → List ℕ
unknown_text ms t = shown_key t.key ++ (codes " is unknown, the keys here are " ++ keys_at t.fault.place ms)

abbrev pub reason_by : Why → Members → Told → List ℕ
reason_by why.Unknown ms t = unknown_text ms t
reason_by why.Missing ms t = missing_text t.fault
reason_by why.Again ms t = codes "an earlier need has this id"
reason_by _ ms t = wrong_text ms t.fault

abbrev pub reason_text : Members → Told → List ℕ
reason_text ms t = reason_by t.fault.why ms t

-- the row and the key, the place, and why
abbrev pub told_text : Members → Told → List ℕ → List ℕ
told_text ms t place = fault_head t.fault ++ (codes ": " ++ (place ++ (reason_text ms t ++ codes "\n")))

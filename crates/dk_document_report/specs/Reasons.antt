-- Why a test of C1 to C3 fails, in words.
use Rattle.std.specs.Prelude.{ℕ, ◌==◌, ◌||◌, Bool, nat_lt, codes, List, [], ◌∷◌, ◌++◌, map, Option, is_some, if◌then◌else◌}
use Rattle.std.specs.Option.{option_map_or}
use Rattle.std.specs.List.{list_any}
use Rattle.std.specs.Str.{bytes_eq}
use Rattle.std.specs.Fmt.{signed_decimal}
use Rattle.toml.specs.Data.{Data, as_array, as_integer, get_member, Members, type_name}
use Rattle.dk_config.specs.declared.fault.ConfigFault.{ConfigFault}
use Rattle.dk_config.specs.declared.fault.Section.{Section}
use Rattle.dk_config.specs.declared.fault.Section.TheVariants as section
use Rattle.dk_config.specs.declared.fault.Field.{Field}
use Rattle.dk_config.specs.declared.fault.Field.TheVariants as field
use Rattle.dk_loader.specs.Keys.{key_fields, key_name}
use Rattle.dk_fault_words.specs.FaultWords.{fault_head}
use Rattle.dk_document_report.specs.Found.{Told, is_second, row_in, table_in, version_by}

-- words with commas between them
abbrev pub commas : List (List ℕ) → List ℕ
commas [] = []
commas (w ∷ []) = w
commas (w ∷ v ∷ ws) = w ++ (codes ", " ++ commas (v ∷ ws))

-- `level` alone is one thing in the whole document, its rows, and another in a process, a number
abbrev pub wanted_level : Section → List ℕ
wanted_level section.Top = codes "an array of tables"
wanted_level _ = codes "a whole number from 0 to 4294967295"

-- the kind that is wanted at a key
abbrev pub wanted : Section → Field → List ℕ
wanted s field.Name = codes "a string"
wanted s field.Program = codes "a string"
wanted s field.Slack = codes "true or false"
wanted s field.Users = codes "an array of strings"
wanted s field.Costs = codes "a table"
wanted s field.Process = codes "an array of tables"
wanted s field.Mutex = codes "an array of tables"
wanted s field.Level = wanted_level s
wanted s _ = codes "a whole number from 0 to 4294967295"

abbrev pub article : List ℕ → List ℕ
article name = if bytes_eq name (codes "array") then codes "an " else codes "a "

-- what a value is: a whole number by itself, any other by its kind
abbrev pub kind_text : Data → List ℕ
kind_text d = option_map_or signed_decimal (as_integer d) (article (type_name d) ++ type_name d)

-- an array that has to be of strings and isn't has an element that is none
abbrev pub kind_at : Field → Data → List ℕ
kind_at field.Users d =
    option_map_or (λ _. codes "an array with an element that is no string") (as_array d) (kind_text d)
kind_at _ d = kind_text d

-- the value that is of the wrong kind: that of the key, or the row where it is no table
abbrev pub value_at : Section → ℕ → Field → Members → Option Data
value_at s i f ms = option_map_or (λ t. get_member (key_name f) t) (table_in s i ms) (row_in s i ms)

abbrev pub wanted_at : Section → ℕ → Field → Members → List ℕ
wanted_at s i f ms = if is_some (table_in s i ms) then wanted s f else codes "a table"

abbrev pub wrong_text : Members → ConfigFault → List ℕ
wrong_text ms f = wanted_at f.section f.row f.field ms
    ++ (codes " is wanted, this is "
    ++ option_map_or (kind_at f.field) (value_at f.section f.row f.field ms) (codes "none"))

abbrev pub is_control : ℕ → Bool
is_control b = nat_lt b 32 || b == 127

-- a name that would break the line isn't written
abbrev pub shown_key : List ℕ → List ℕ
shown_key k = if list_any is_control k then codes "a key with a control character" else k

abbrev pub keys_text : Section → Bool → List ℕ
keys_text s second = commas (map key_name (key_fields s (version_by second)))

abbrev pub unknown_text : Members → Told → List ℕ
unknown_text ms t = shown_key t.key
    ++ (codes " is unknown, the keys here are " ++ keys_text t.fault.section (is_second ms))

abbrev pub missing_text : Told → List ℕ
missing_text t = codes "it is missing, " ++ (wanted t.fault.section t.fault.field ++ codes " is wanted")

abbrev pub reason_text : Members → Told → List ℕ
reason_text ms t =
    if t.fault.number == 1 then unknown_text ms t
    else if t.fault.number == 2 then missing_text t
    else wrong_text ms t.fault

-- the line of a refusal, the place, and why
abbrev pub told_text : Members → Told → List ℕ → List ℕ
told_text ms t place = fault_head t.fault ++ (codes ": " ++ (place ++ (reason_text ms t ++ codes "\n")))

-- What is wrong with a value at a key, if it isn't one of those that the key takes.
use Rattle.std.specs.Prelude.{ℕ, ◌==◌, ◌&&◌, ◌||◌, not, Bool, true, false, length, nat_lt, nat_le, is_some, List, Option, Some, None, option_map, if◌then◌else◌}
use Rattle.std.specs.List.{list_all}
use Rattle.std.specs.Option.{option_map_or}
use Rattle.std.specs.Char.{is_ascii_alphanumeric}
use Rattle.toml.specs.Data.{Data, as_array, as_bool, as_str}
use Rattle.dk_config.specs.declared.TheConstants.{MAX_PROCESSES}
use Rattle.dk_config.specs.Rules.{is_name}
use Rattle.dk_config.specs.Tests.{outside}
use Rattle.dk_loader.specs.Look.{as_number, items_list}
use Rattle.dk_needs.specs.declared.TheConstants.{MAX_ID_BYTES, MAX_ROWS}
use Rattle.dk_needs.specs.declared.fault.Why.{Why}
use Rattle.dk_needs.specs.declared.fault.Why.TheVariants as why
use Rattle.dk_needs.specs.declared.keys.Shape.{Shape}
use Rattle.dk_needs.specs.declared.keys.Shape.TheVariants as shape
use Rattle.dk_needs.specs.Ticks.{tick_of}

abbrev pub is_id_byte : ℕ → Bool
is_id_byte b = ((is_ascii_alphanumeric b || b == 46) || b == 95) || b == 45

-- 1 to 32 letters, digits, '.', '_' or '-'
abbrev pub is_id : List ℕ → Bool
is_id t = (nat_lt 0 (length t) && nat_le (length t) MAX_ID_BYTES) && list_all is_id_byte t

-- a number from the first to the second
abbrev pub number_fault : ℕ → ℕ → Data → Option Why
number_fault least most d =
    option_map_or (λ n. if outside least most n then Some why.Range else None) (as_number d) (Some why.Kind)

-- a text that passes the test
abbrev pub text_fault : (List ℕ → Bool) → Data → Option Why
text_fault passes d = option_map_or (λ t. if passes t then None else Some why.Spelling) (as_str d) (Some why.Kind)

abbrev pub id_fault : Data → Option Why
id_fault d = text_fault is_id d

abbrev pub name_fault : Data → Option Why
name_fault d = text_fault is_name d

abbrev pub tick_fault : Data → Option Why
tick_fault d = text_fault (λ t. is_some (tick_of t)) d

abbrev pub true_fault : Data → Option Why
true_fault d = option_map_or (λ b. if b then None else Some why.Range) (as_bool d) (Some why.Kind)

abbrev pub is_name_text : Data → Bool
is_name_text d = option_map_or is_name (as_str d) false

-- 1 to 32 names
abbrev pub names_fault : List Data → Option Why
names_fault ds =
    if not (list_all (λ d. is_some (as_str d)) ds) then Some why.Kind
    else if outside 1 MAX_PROCESSES (length ds) then Some why.Count
    else if list_all is_name_text ds then None
    else Some why.Spelling

-- at most 256 rows; each row is looked at by itself
abbrev pub rows_fault : List Data → Option Why
rows_fault ds = if nat_lt MAX_ROWS (length ds) then Some why.Count else None

-- the elements of an array
abbrev pub elements_of : Data → Option (List Data)
elements_of d = option_map items_list (as_array d)

abbrev pub array_fault : Bool → Data → Option Why
array_fault are_names d =
    option_map_or (λ ds. if are_names then names_fault ds else rows_fault ds) (elements_of d) (Some why.Kind)

abbrev pub value_fault : Shape → Data → Option Why
value_fault (shape.Number least most) d = number_fault least most d
value_fault shape.Id d = id_fault d
value_fault shape.Name d = name_fault d
value_fault shape.Names d = array_fault true d
value_fault shape.True d = true_fault d
value_fault shape.Tick d = tick_fault d
value_fault shape.Rows d = array_fault false d

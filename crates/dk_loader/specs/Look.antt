-- What stands at a key, and the kinds of values.
use Rattle.std.specs.Prelude.{ℕ, ℤ, pos, negsuc, Bool, false, not, nat_le, List, [], ◌∷◌, Option, Some, None, is_none, if◌then◌else◌, unwrap_or, option_and_then, codes, is_some, ◌==◌}
use Rattle.std.specs.Option.{option_map_or}
use Rattle.std.specs.List.{list_any, list_all}
use Rattle.std.specs.Str.{bytes_eq}
use Rattle.dk_loader.specs.declared.keys.Version.{Version}
use Rattle.dk_loader.specs.declared.keys.Version.TheVariants as version
use Rattle.toml.specs.Data.{Data, array, as_integer, as_table, as_str, as_bool, as_array, Items, no_items, item, Members, no_members, member, get_member}

-- a whole number of 32 bits
abbrev pub small : ℤ → Option ℕ
small (pos n) = if nat_le n 4294967295 then Some n else None
small (negsuc n) = None

abbrev pub as_number : Data → Option ℕ
as_number d = option_and_then small (as_integer d)

abbrev pub is_missing : List ℕ → Members → Bool
is_missing key ms = is_none (get_member key ms)

-- there is a value, and it is no number
abbrev pub is_wrong_number : List ℕ → Members → Bool
is_wrong_number key ms = option_map_or (λ d. is_none (as_number d)) (get_member key ms) false

-- the number at a key, or the default
abbrev pub number_at : List ℕ → ℕ → Members → ℕ
number_at key d ms = option_map_or (λ v. unwrap_or (as_number v) d) (get_member key ms) d

abbrev pub items_list : Items → List Data
items_list no_items = []
items_list (item d ds) = d ∷ items_list ds

-- the elements of the array at a key
abbrev pub elements : Data → List Data
elements (array ds) = items_list ds
elements _ = []

abbrev pub rows_at : List ℕ → Members → List Data
rows_at key ms = option_map_or elements (get_member key ms) []

-- there is a value, and it is of another kind
abbrev pub is_wrong_text : List ℕ → Members → Bool
is_wrong_text key ms = option_map_or (λ d. is_none (as_str d)) (get_member key ms) false

abbrev pub is_wrong_flag : List ℕ → Members → Bool
is_wrong_flag key ms = option_map_or (λ d. is_none (as_bool d)) (get_member key ms) false

abbrev pub is_wrong_table : List ℕ → Members → Bool
is_wrong_table key ms = option_map_or (λ d. is_none (as_table d)) (get_member key ms) false

-- an array of tables is looked at row by row
abbrev pub is_wrong_rows : List ℕ → Members → Bool
is_wrong_rows key ms = option_map_or (λ d. is_none (as_array d)) (get_member key ms) false

abbrev pub all_texts : Items → Bool
all_texts ds = list_all (λ d. is_some (as_str d)) (items_list ds)

abbrev pub is_wrong_texts : List ℕ → Members → Bool
is_wrong_texts key ms = option_map_or (λ d. not (option_map_or all_texts (as_array d) false)) (get_member key ms) false

abbrev pub keys_of : Members → List (List ℕ)
keys_of no_members = []
keys_of (member k d ms) = k ∷ keys_of ms

-- a key that isn't among these
abbrev pub has_unknown : List (List ℕ) → Members → Bool
has_unknown known ms = list_any (λ k. not (list_any (λ n. bytes_eq n k) known)) (keys_of ms)

-- by whose keys it is read
unfoldable pub version_of : Members → Version
version_of ms = if number_at (codes "version") 0 ms == 2 then version.Two else version.One

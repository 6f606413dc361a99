-- All that is wrong with the tables of a document.
use Rattle.std.specs.Prelude.{ℕ, suc, ◌||◌, not, Bool, true, false, List, [], ◌∷◌, ◌++◌, flat_map, Option, Some, None, option_map, option_to_list, if◌then◌else◌}
use Rattle.std.specs.List.{list_any}
use Rattle.std.specs.Option.{option_map_or}
use Rattle.std.specs.Str.{bytes_eq}
use Rattle.toml.specs.Data.{Data, as_table, Members, get_member}
use Rattle.dk_loader.specs.Look.{keys_of, rows_at}
use Rattle.dk_needs.specs.declared.fault.Fault.{Fault}
use Rattle.dk_needs.specs.declared.fault.Place.{Place}
use Rattle.dk_needs.specs.declared.fault.Section.{Section}
use Rattle.dk_needs.specs.declared.fault.Key.{Key}
use Rattle.dk_needs.specs.declared.fault.Key.TheVariants as key
use Rattle.dk_needs.specs.declared.fault.Why.{Why}
use Rattle.dk_needs.specs.declared.fault.Why.TheVariants as why
use Rattle.dk_needs.specs.Keys.{form_of, key_name, needed_keys, other_keys, section_key, sections, shape_of, top_keys}
use Rattle.dk_needs.specs.Fitting.{value_fault}

-- what each row gives, from this number on
abbrev pub from_row : {R X : Type 0} → (ℕ → R → List X) → ℕ → List R → List X
from_row f i [] = []
from_row f i (row ∷ rows) = f i row ++ from_row f (suc i) rows

abbrev pub is_known : List Key → List Key → List ℕ → Bool
is_known needed others name =
    list_any (λ k. bytes_eq (key_name k) name) needed || list_any (λ k. bytes_eq (key_name k) name) others

-- a key that is none of these
abbrev pub has_stranger : List Key → List Key → Members → Bool
has_stranger needed others ms = list_any (λ k. not (is_known needed others k)) (keys_of ms)

abbrev pub fault_at : Option Place → Key → Why → Fault
fault_at p k w = record { place = p; key = k; why = w }

abbrev pub stranger_fault : Option Place → List Key → List Key → Members → Option Fault
stranger_fault p needed others ms =
    if has_stranger needed others ms then Some (fault_at p key.Unknown why.Unknown) else None

abbrev pub found_fault : Option Place → Bool → Key → Option Data → Option Fault
found_fault p needed k None = if needed then Some (fault_at p k why.Missing) else None
found_fault p needed k (Some d) = option_map (fault_at p k) (value_fault (shape_of k) d)

-- what is wrong at one key: it is needed and there is no value, or the value is none that it takes
abbrev pub key_fault : Option Place → Bool → Members → Key → Option Fault
key_fault p needed ms k = found_fault p needed k (get_member (key_name k) ms)

abbrev pub keys_faults : Option Place → Bool → Members → List Key → List Fault
keys_faults p needed ms ks = flat_map (λ k. option_to_list (key_fault p needed ms k)) ks

-- of a table that must have some keys and may have others
abbrev pub table_faults : Option Place → List Key → List Key → Members → List Fault
table_faults p needed others ms =
    option_to_list (stranger_fault p needed others ms)
    ++ (keys_faults p true ms needed ++ keys_faults p false ms others)

abbrev pub place_of : Section → ℕ → Option Place
place_of s i = Some (record { section = s; row = i })

-- of a row, which must be a table
abbrev pub row_faults : Section → ℕ → Data → List Fault
row_faults s i d =
    option_map_or (λ ms. table_faults (place_of s i) (needed_keys (form_of s ms)) (other_keys (form_of s ms)) ms)
    (as_table d) (fault_at (place_of s i) key.Id why.Kind ∷ [])

abbrev pub section_faults : Members → Section → List Fault
section_faults ms s = from_row (row_faults s) 0 (rows_at (key_name (section_key s)) ms)

-- the keys of the whole document, and then the rows of each section
unfoldable pub shape_faults : Members → List Fault
shape_faults ms = table_faults None (key.Version ∷ []) top_keys ms ++ flat_map (section_faults ms) sections

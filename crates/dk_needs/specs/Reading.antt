-- The needs that a document stands for, or all that is wrong with it.
use Rattle.std.specs.Prelude.{ℕ, Bool, not, List, [], ◌∷◌, flat_map, map, take, option_and_then, option_to_list, Option, Some, None, Result, Ok, Err, codes, if◌then◌else◌}
use Rattle.std.specs.List.{list_any}
use Rattle.std.specs.Option.{option_map_or}
use Rattle.std.specs.Str.{bytes_eq}
use Rattle.toml.specs.Data.{Data, as_table, Members, get_member}
use Rattle.dk_loader.specs.Look.{as_number, is_missing, number_at, rows_at}
use Rattle.dk_loader.specs.Reading.{document, text_at, text_of}
use Rattle.dk_needs.specs.declared.fault.Fault.{Fault}
use Rattle.dk_needs.specs.declared.fault.Section.{Section}
use Rattle.dk_needs.specs.declared.fault.Key.TheVariants as key
use Rattle.dk_needs.specs.declared.fault.Why.TheVariants as why
use Rattle.dk_needs.specs.declared.fault.NeedsError.{NeedsError}
use Rattle.dk_needs.specs.declared.fault.NeedsError.TheVariants as error
use Rattle.dk_needs.specs.declared.keys.Form.{Form}
use Rattle.dk_needs.specs.declared.keys.Form.TheVariants as form
use Rattle.dk_needs.specs.declared.needs.Need.{Need}
use Rattle.dk_needs.specs.declared.needs.Tick.{Tick}
use Rattle.dk_needs.specs.declared.needs.What.{What}
use Rattle.dk_needs.specs.declared.needs.What.TheVariants as what
use Rattle.dk_needs.specs.Keys.{form_of, key_name, section_key, sections}
use Rattle.dk_needs.specs.Shape.{fault_at, from_row, shape_faults}
use Rattle.dk_needs.specs.Ticks.{tick_of}
use Rattle.dk_needs.specs.Wanted.{Wanted}

-- the number at a key, where there is one
abbrev pub optional_at : List ℕ → Members → Option ℕ
optional_at k ms = option_and_then as_number (get_member k ms)

-- there is a value; the only one that such a key takes is true
abbrev pub is_there : List ℕ → Members → Bool
is_there k ms = not (is_missing k ms)

abbrev pub names_at : List ℕ → Members → List (List ℕ)
names_at k ms = map text_of (rows_at k ms)

abbrev pub tick_at : Members → Option Tick
tick_at ms = option_and_then (λ d. tick_of (text_of d)) (get_member (codes "tick") ms)

abbrev pub room_of : Form → Members → What
room_of form.Budget ms = what.Budget (text_at (codes "process") ms) (number_at (codes "budget") 0 ms)
room_of form.Hold ms = what.Hold (text_at (codes "mutex") ms) (number_at (codes "hold") 0 ms)
room_of _ ms = what.Release (number_at (codes "level") 0 ms) (number_at (codes "release") 0 ms)

abbrev pub chain_in : Members → What
chain_in ms =
    what.Chain (names_at (codes "processes") ms) (optional_at (codes "reaction") ms) (optional_at (codes "age") ms)

abbrev pub jitter_of : Form → Members → What
jitter_of form.ChainJitter ms = what.ChainJitter (names_at (codes "processes") ms) (number_at (codes "reaction") 0 ms)
jitter_of _ ms =
    what.Jitter (text_at (codes "process") ms) (optional_at (codes "begins") ms) (optional_at (codes "done") ms)

-- what a row of this form asks for
abbrev pub what_of : Form → Members → What
what_of form.Deadline ms = what.Deadline (text_at (codes "process") ms) (number_at (codes "within") 0 ms)
what_of form.Chain ms = chain_in ms
what_of form.Age ms = chain_in ms
what_of form.Jitter ms = jitter_of form.Jitter ms
what_of form.DoneJitter ms = jitter_of form.DoneJitter ms
what_of form.ChainJitter ms = jitter_of form.ChainJitter ms
what_of form.Growth ms = what.Growth (number_at (codes "percent") 0 ms)
what_of form.Spare ms = what.Spare (number_at (codes "level") 0 ms) (number_at (codes "ticks") 0 ms)
what_of form.Slack ms =
    what.Slack (text_at (codes "process") ms) (number_at (codes "each") 0 ms) (optional_at (codes "within") ms)
what_of form.Always ms = what.Always (text_at (codes "process") ms)
what_of form.Run ms =
    what.Run (optional_at (codes "overruns") ms) (optional_at (codes "refused") ms) (optional_at (codes "faults") ms)
    (is_there (codes "forever") ms)
what_of f ms = room_of f ms

abbrev pub need_in : Section → ℕ → Members → Need
need_in s i ms = record {
  place = record { section = s; row = i };
  id = text_at (codes "id") ms;
  what = what_of (form_of s ms) ms;
}

-- a row that is no table asks for nothing
abbrev pub need_row : Section → ℕ → Data → List Need
need_row s i d = option_map_or (λ ms. need_in s i ms ∷ []) (as_table d) []

abbrev pub section_needs : Members → Section → List Need
section_needs ms s = from_row (need_row s) 0 (rows_at (key_name (section_key s)) ms)

-- all needs, by section and then by row
unfoldable pub needs_of : Members → Wanted
needs_of ms = record { tick = tick_at ms; rows = flat_map (section_needs ms) sections }

-- an earlier need has the name
abbrev pub again_fault : List Need → Need → Option Fault
again_fault before n =
    if list_any (λ (m : Need). bytes_eq m.id n.id) before then Some (fault_at (Some n.place) key.Id why.Again) else None

abbrev pub again_faults : List Need → List Fault
again_faults rows = from_row (λ i n. option_to_list (again_fault (take i rows) n)) 0 rows

-- what was found, if anything was
abbrev pub refusal : List Fault → Option (List Fault)
refusal [] = None
refusal (f ∷ fs) = Some (f ∷ fs)

abbrev pub answer_of : Wanted → Option (List Fault) → Result Wanted NeedsError
answer_of needs None = Ok needs
answer_of needs (Some fs) = Err (error.Refused fs)

-- no two needs have one name
abbrev pub named_apart : Wanted → Result Wanted NeedsError
named_apart needs = answer_of needs (refusal (again_faults needs.rows))

-- names are compared where the tables are as they must be
abbrev pub answer_for : Wanted → Option (List Fault) → Result Wanted NeedsError
answer_for needs None = named_apart needs
answer_for needs (Some fs) = Err (error.Refused fs)

-- the needs, or all that is wrong
unfoldable pub reading_of : Members → Result Wanted NeedsError
reading_of ms = answer_for (needs_of ms) (refusal (shape_faults ms))

abbrev pub reading_from : Option Members → Result Wanted NeedsError
reading_from None = Err error.NotToml
reading_from (Some ms) = reading_of ms

unfoldable pub reading : List ℕ → Result Wanted NeedsError
reading bytes = reading_from (document bytes)

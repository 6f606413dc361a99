-- Where in a document of needs a thing stands.
use Rattle.std.specs.Prelude.{ℕ, ◌≡◌, ◌&&◌, Bool, false, is_some, List, [], Option, Some, None, MatchBool}
use Rattle.std.specs.Option.{option_map_or}
use Rattle.toml.specs.Data.{Members}
use Rattle.dk_loader.specs.Reading.{document}
use Rattle.dk_document_report.specs.Standing.{IsPlaced, has_key, row_has}
use Rattle.dk_needs.specs.declared.fault.Place.{Place}
use Rattle.dk_needs.specs.declared.fault.Why.{Why}
use Rattle.dk_needs.specs.declared.fault.Why.TheVariants as why
use Rattle.dk_needs.specs.Keys.{key_name}
use Rattle.dk_needs_report.specs.Found.{Told, row_at}

-- a row that is no table is itself what is looked for
abbrev pub key_stands : Option Place → List ℕ → Members → Bool
key_stands None k ms = has_key k ms
key_stands (Some p) k ms = option_map_or (row_has k) (row_at (Some p) ms) false

-- what a line is about: the key; of a key that is missing its row, and nothing of one that the whole document lacks
abbrev pub stands_by : Why → Told → Members → Bool
stands_by why.Missing t ms = is_some (row_at t.fault.place ms)
stands_by why.Unknown t ms = key_stands t.fault.place t.key ms
stands_by _ t ms = key_stands t.fault.place (key_name t.fault.key) ms

abbrev pub stands : Told → Members → Bool
stands t ms = stands_by t.fault.why t ms

-- the bytes are a document in which it stands
abbrev pub stands_in : Told → List ℕ → Bool
stands_in t bytes = option_map_or (stands t) (document bytes) false

-- a place where it is asked for and there is one, and else none
abbrev pub IsPlaceText : List ℕ → Members → Bool → Told → List ℕ → Type 0
IsPlaceText bytes ms asked t text = MatchBool (asked && stands t ms) (IsPlaced bytes (stands_in t) text) (text ≡ [])

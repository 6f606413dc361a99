-- A record of a table, as the crate `csv` writes it.
use Rattle.std.specs.Prelude.{ℕ, ◌≡◌, ◌<◌, ◌^◌, false, List, [], ◌∷◌, decimal, Option, Some, None, IfSome}
use Rattle.csv.specs.Writing.{default_writer, needs_quotes, row_text}
use Rattle.dk_table.specs.declared.form.Form.{Form}

-- a field that is empty where there is no number
abbrev pub number_field : Option ℕ → List ℕ
number_field None = []
number_field (Some n) = decimal n

-- a number of 64 bits, where there is one
abbrev pub IsSmall : Option ℕ → Type 0
IsSmall n = IfSome n (λ n. n < 2 ^ 64)

-- the text of a record as `csv` writes it
abbrev pub record_text : List (List ℕ) → List ℕ
record_text fs = row_text default_writer fs

-- no byte of the text calls for quotes
abbrev pub IsPlain : List ℕ → Type 0
IsPlain f = needs_quotes default_writer f ≡ false

-- a field behind others, where it calls for no quotes
abbrev pub behind_comma : List ℕ → List ℕ
behind_comma f = 44 ∷ f

-- a row in the form that is wanted: its line, or its record
abbrev pub in_form : Form → List ℕ → List ℕ → List ℕ
in_form Form.Line line recorded = line
in_form Form.Record line recorded = recorded

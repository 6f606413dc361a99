-- The columns of a table of which nothing would be asked: those of no process, and each one more of the same.
use Rattle.std.specs.Prelude.{ℕ, zero, suc, ◌+◌, if◌then◌else◌, Bool, false, List, [], ◌++◌, codes, decimal, length, take, Option, Some, None}
use Rattle.std.specs.List.{list_any}
use Rattle.std.specs.Str.{bytes_eq}
use Rattle.csv.specs.Records.{field_at}
use Rattle.dk_asm.specs.Source.{lines_of}
use Rattle.dk_config.specs.Sums.{first_of}
use Rattle.dk_config.specs.declared.rows.ProcessRow.{ProcessRow}
use Rattle.dk_times.specs.Records.{record_of}

-- the names of the columns, in the first line that isn't blank
abbrev pub header : List ℕ → Option (List (List ℕ))
header table = first_of record_of (lines_of table)

abbrev pub is_process : List ProcessRow → List ℕ → Bool
is_process rows name = list_any (λ row. bytes_eq name row.name) rows

-- columns are counted from 1
abbrev pub column_number : ℕ → List ℕ
column_number place = codes "times: column " ++ (decimal (place + 1) ++ codes " is no process\n")

abbrev pub is_named : List ℕ → Option (List ℕ) → Bool
is_named name None = false
is_named name (Some other) = bytes_eq name other

-- a column in front of this place has the same name, and is the one that is read
abbrev pub is_again : List (List ℕ) → ℕ → List ℕ → Bool
is_again names place name = list_any (λ other. bytes_eq name other) (take place names)

abbrev pub column_head : ℕ → List ℕ
column_head place = codes "times: column " ++ (decimal (place + 1) ++ codes " is ")

abbrev pub column_again : ℕ → List ℕ → List ℕ
column_again place name = column_head place ++ (name ++ codes " once more\n")

abbrev pub again_told : List (List ℕ) → ℕ → List ℕ → List ℕ
again_told names place name = if is_again names place name then column_again place name else []

abbrev pub stranger_told : List ProcessRow → List (List ℕ) → ℕ → Option (List ℕ) → List ℕ
stranger_told rows names place None = []
stranger_told rows names place (Some name) = if is_process rows name then again_told names place name else column_number place

-- those of the first n columns
abbrev pub strangers_below : List ProcessRow → List (List ℕ) → ℕ → List ℕ
strangers_below rows names zero = []
strangers_below rows names (suc n) = strangers_below rows names n ++ stranger_told rows names n (field_at names n)

abbrev pub strangers_told : List ProcessRow → Option (List (List ℕ)) → List ℕ
strangers_told rows None = []
strangers_told rows (Some names) = strangers_below rows names (length names)

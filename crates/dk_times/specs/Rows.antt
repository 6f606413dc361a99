-- What the rows of a table say of the jobs of a process, one by one.
use Rattle.std.specs.Prelude.{ℕ, ◌==◌, ◌&&◌, Bool, true, false, if◌then◌else◌, List, [], length, position, Option, Some, None, Result, Err}
use Rattle.std.specs.Str.{bytes_eq}
use Rattle.csv.specs.Records.{field_at}
use Rattle.dk_profile.specs.declared.TheConstants.{MAX_WORK}
use Rattle.dk_profile.specs.declared.steps.Why.{Why}
use Rattle.dk_profile.specs.Reading.{amount}
use Rattle.dk_times.specs.declared.rows.Column.{Column}
use Rattle.dk_times.specs.declared.rows.Found.{Found}

-- the place of the first of the names that is this one
abbrev pub place_of : List ℕ → List (List ℕ) → Option ℕ
place_of name names = position (λ field. bytes_eq field name) names

abbrev pub column_at : ℕ → Option ℕ → Found
column_at width None = Found.NoColumn
column_at width (Some place) = Found.At (record { place = place; width = width; ended = false })

-- the column of a name, by the row of the names
abbrev pub column_named : List ℕ → List (List ℕ) → Found
column_named name names = column_at (length names) (place_of name names)

-- a row of names has no job, and has to have the name
abbrev pub names_say : Option ℕ → Option (Result ℕ Why)
names_say None = Some (Err Why.NoColumn)
names_say (Some place) = None

abbrev pub cell_of : Option (List ℕ) → List ℕ
cell_of None = []
cell_of (Some cell) = cell

abbrev pub cell_at : List (List ℕ) → ℕ → List ℕ
cell_at fields place = cell_of (field_at fields place)

-- The ticks of the job in a cell: at least those of its wait, and at most 1,000,000. An empty cell has none, and ends the
-- column.
abbrev pub cell_says : ℕ → Bool → List ℕ → Option (Result ℕ Why)
cell_says call ended cell =
    if length cell == 0 then None else (if ended then Some (Err Why.Ended) else Some (amount call MAX_WORK cell))

-- a row has as many cells as the row of the names
abbrev pub column_says : ℕ → Column → List (List ℕ) → Option (Result ℕ Why)
column_says call column fields =
    if length fields == column.width then cell_says call column.ended (cell_at fields column.place)
    else Some (Err (Why.Cells column.width))

-- what a row says of a job of the process
abbrev pub row_says : ℕ → List ℕ → Found → List (List ℕ) → Option (Result ℕ Why)
row_says call name Found.Nothing fields = names_say (place_of name fields)
row_says call name Found.NoColumn fields = None
row_says call name (Found.At column) fields = column_says call column fields

abbrev pub column_behind : Column → List (List ℕ) → Column
column_behind column fields =
    if length fields == column.width && length (cell_at fields column.place) == 0
    then record { place = column.place; width = column.width; ended = true } else column

-- what is known of the column behind a row
abbrev pub after_row : List ℕ → Found → List (List ℕ) → Found
after_row name Found.Nothing fields = column_named name fields
after_row name Found.NoColumn fields = Found.NoColumn
after_row name (Found.At column) fields = Found.At (column_behind column fields)

-- A table of comma-separated values, or lines of words, as the rows of a table in HTML.
use Rattle.std.specs.Prelude.{ℕ, ◌+◌, Bool, ◌&&◌, nat_lt, if◌then◌else◌, List, [], ◌∷◌, ◌++◌, length, drop, flat_map, codes, decimal}
use Rattle.std.specs.Char.{is_ascii_digit}
use Rattle.std.specs.List.{list_all}
use Rattle.dk_html.specs.Escaping.{escaped}
use Rattle.dk_html.specs.Pieces.{pieces}

-- digits alone
abbrev pub is_number : List ℕ → Bool
is_number field = nat_lt 0 (length field) && list_all is_ascii_digit field

abbrev pub number_property : ℕ → List ℕ → List ℕ
number_property column field = codes "--c" ++ (decimal column ++ (codes ":" ++ (field ++ codes ";")))

-- a field that is a number as the style sheet reads it, by its column, counted from 0. No other stands in a style, so none
-- adds a property to it
abbrev pub property : ℕ → List ℕ → List ℕ
property column field = if is_number field then number_property column field else []

abbrev pub properties_from : ℕ → List (List ℕ) → List ℕ
properties_from column [] = []
properties_from column (field ∷ fields) = property column field ++ properties_from (column + 1) fields

abbrev pub cell : List ℕ → List ℕ
cell field = codes "<td>" ++ (escaped field ++ codes "</td>")

abbrev pub first_of : List (List ℕ) → List ℕ
first_of [] = []
first_of (field ∷ fields) = field

-- of what kind the row is, and the numbers from which its bar is drawn
unfoldable pub row_start : List (List ℕ) → List ℕ
row_start fields = codes "<tr data-kind=\"" ++ (escaped (first_of fields)
    ++ (codes "\" style=\"" ++ (properties_from 0 fields ++ codes "\">")))

-- a cell for each field, and one for the bar
unfoldable pub row_end : List (List ℕ) → List ℕ
row_end fields = flat_map cell fields
    ++ codes "<td class=\"fill\" aria-hidden=\"true\"><div class=\"bar\"><i></i><i></i><i></i></div></td></tr>\n"

abbrev pub row : List (List ℕ) → List ℕ
row fields = row_start fields ++ row_end fields

-- the fields of a line stand between bytes of one kind, and a line with nothing in it is no row
abbrev pub row_of : ℕ → List ℕ → List ℕ
row_of between [] = []
row_of between (b ∷ line) = row (pieces between (b ∷ line))

abbrev pub rows_of : ℕ → List (List ℕ) → List ℕ
rows_of between lines = flat_map (row_of between) lines

-- a row for each line but the first, which has the names of the columns; its fields stand between commas
abbrev pub rows : List ℕ → List ℕ
rows text = rows_of 44 (drop 1 (pieces 10 text))

-- the name of a column
unfoldable pub column_cell : List ℕ → List ℕ
column_cell field = codes "<th scope=\"col\">" ++ (escaped field ++ codes "</th>")

-- a cell for each name, and one for the bar
unfoldable pub column_row : List (List ℕ) → List ℕ
column_row names = codes "<tr>"
    ++ (flat_map column_cell names ++ codes "<th class=\"fill\" aria-hidden=\"true\"></th></tr>\n")

-- the row of the names of the columns, which stand in the first line
abbrev pub columns : List ℕ → List ℕ
columns text = column_row (pieces 44 (first_of (pieces 10 text)))

-- a row for each line; its words stand between spaces
abbrev pub word_rows : List ℕ → List ℕ
word_rows text = rows_of 32 (pieces 10 text)

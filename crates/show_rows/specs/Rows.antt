-- Rows, and what is told of them in each form. A row is the list of the texts of its cells.
use Rattle.std.specs.Prelude.{ℕ, ◌==◌, if◌then◌else◌, List, [], ◌∷◌, ◌++◌, codes, decimal, Option, Some, None}
use Rattle.std.specs.List.{slice_split}
use Rattle.std.specs.Str.{bytes_eq}
use Rattle.csv.specs.Writing.{default_writer, row_text}
use Rattle.show_rows.specs.declared.cell.Cell.{Cell}
use Rattle.show_rows.specs.declared.cell.Cell.TheVariants.{Gap, Word, Number}
use Rattle.show_rows.specs.declared.row.Form.{Form}

-- what stands in a cell
abbrev pub cell_text : Cell → List ℕ
cell_text Gap = []
cell_text (Word words) = words.now
cell_text (Number n) = decimal n

-- a number, or nothing
abbrev pub number_field : Option ℕ → List ℕ
number_field None = []
number_field (Some n) = decimal n

-- the names of the columns, which stand between commas
abbrev pub names : List ℕ → List (List ℕ)
names columns = slice_split (λ b. b == 44) columns

-- the cell of the first column with this name, and nothing where no column has it
abbrev pub cell_named : List (List ℕ) → List (List ℕ) → List ℕ → List ℕ
cell_named columns [] name = []
cell_named [] (cell ∷ row) name = []
cell_named (column ∷ columns) (cell ∷ row) name = if bytes_eq column name then cell else cell_named columns row name

-- the hole of a pattern that is open behind a byte, with its name so far: it begins and ends with a brace
abbrev pub hole_after : Option (List ℕ) → ℕ → Option (List ℕ)
hole_after None b = if b == 123 then Some [] else None
hole_after (Some name) b = if b == 125 then None else Some (name ++ b ∷ [])

-- a byte outside of a hole stands for itself, and the end of a hole for the cell of the column with its name
abbrev pub shown : List (List ℕ) → List (List ℕ) → Option (List ℕ) → ℕ → List ℕ
shown columns row None b = if b == 123 then [] else b ∷ []
shown columns row (Some name) b = if b == 125 then cell_named columns row name else []

-- a pattern with its holes filled
abbrev pub filled : List (List ℕ) → List (List ℕ) → Option (List ℕ) → List ℕ → List ℕ
filled columns row hole [] = []
filled columns row hole (b ∷ rest) = shown columns row hole b ++ filled columns row (hole_after hole b) rest

-- a row: the pattern of its line with its holes filled, or its record
abbrev pub told : Form → List ℕ → List ℕ → List (List ℕ) → List ℕ
told Form.Line columns pattern row = filled (names columns) row None pattern
told Form.Record columns pattern row = row_text default_writer row

-- a line that a text has, and a table hasn't
abbrev pub note_told : Form → List ℕ → List ℕ → List (List ℕ) → List ℕ
note_told Form.Line columns pattern row = filled (names columns) row None pattern
note_told Form.Record columns pattern row = []

-- what a table begins with, and a text ends with
abbrev pub head_told : Form → List ℕ → List ℕ
head_told Form.Line columns = []
head_told Form.Record columns = columns ++ codes "\n"

abbrev pub end_told : Form → List ℕ
end_told Form.Line = codes "end\n"
end_told Form.Record = []

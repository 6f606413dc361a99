-- A page as a list of its parts.
use Rattle.std.specs.Prelude.{ℕ, List, flat_map, decimal}
use Rattle.dk_html.specs.Checksums.{file_row}
use Rattle.dk_html.specs.Escaping.{escaped}
use Rattle.dk_html.specs.Outputs.{output}
use Rattle.dk_html.specs.Tables.{columns, rows, word_rows}
use Rattle.dk_html.specs.declared.parts.Part.{Part}
use Rattle.dk_html.specs.declared.parts.Part.TheVariants.{Words, Made, Text, Number, Columns, Rows, Lines, Output, File}

-- one text behind the other
abbrev pub joined : List (List ℕ) → List ℕ
joined texts = flat_map (λ text. text) texts

-- what stands in the page for a part
abbrev pub part_text : Part → List ℕ
part_text (Words words) = words.now
part_text (Made bytes) = bytes.now
part_text (Text text) = escaped text.now
part_text (Number n) = decimal n
part_text (Columns table) = columns table.now
part_text (Rows table) = rows table.now
part_text (Lines text) = word_rows text.now
part_text (Output command name text) = output command.now name.now text.now
part_text (File what name bytes) = file_row what.now name.now bytes.now

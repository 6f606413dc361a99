-- The records of a table: each line is one, as the crate csv reads it.
use Rattle.std.specs.Prelude.{ℕ, ◌-◌, ◌==◌, ◌&&◌, nat_le, if◌then◌else◌, List, [], length, slice_index, take, Option, option_map}
use Rattle.csv.specs.Machine.{next_record}
use Rattle.csv.specs.Reading.{default_config, strip_bom}
use Rattle.csv.specs.declared.parser.Config.{Config}
use Rattle.csv.specs.declared.parser.State.TheVariants as state
use Rattle.csv.specs.declared.parser.Terminator.TheVariants as ends

-- the line without the carriage return at its end
abbrev pub without_return : List ℕ → List ℕ
without_return line =
    if nat_le 1 (length line) && slice_index line (length line - 1) == 13 then take (length line - 1) line else line

-- fields between commas, in quotes where they need them, to the end of the line
abbrev pub line_config : Config
line_config = record default_config { terminator = ends.Any 10 }

-- the fields of a line, which is blank where it has none
abbrev pub record_of : List ℕ → Option (List (List ℕ))
record_of line =
    option_map (λ p. p.0) (next_record line_config state.StartRecord [] [] (strip_bom (without_return line)))

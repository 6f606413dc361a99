-- What a table says of the jobs of a process.
use Rattle.std.specs.Prelude.{ℕ, ◌+◌, ◌-◌, nat_lt, if◌then◌else◌, List, [], ◌∷◌, ◌++◌, flat_map, map, option_to_list, Option, Some, None, Result, Ok, Err}
use Rattle.std.specs.List.{filter_map}
use Rattle.std.specs.Option.{option_map}
use Rattle.dk_asm.specs.Source.{lines_of}
use Rattle.dk_profile.specs.declared.steps.Why.{Why}
use Rattle.dk_profile.specs.declared.steps.Step.{Step}
use Rattle.dk_profile.specs.declared.steps.Reading.TheVariants as reading
use Rattle.dk_profile.specs.declared.steps.Placed.{Placed}
use Rattle.dk_times.specs.declared.rows.Found.{Found}
use Rattle.dk_times.specs.declared.table.Cell.{Cell}
use Rattle.dk_times.specs.Records.{record_of}
use Rattle.dk_times.specs.Rows.{after_row, row_says}

abbrev pub said_at : ℕ → Result ℕ Why → Cell
said_at line says = record { line = line; says = says }

-- what a line says of a job, where it isn't blank
abbrev pub line_cells : ℕ → List ℕ → Found → ℕ → Option (List (List ℕ)) → List Cell
line_cells call name found line None = []
line_cells call name found line (Some fields) = option_to_list (option_map (said_at line) (row_says call name found fields))

abbrev pub after_line : List ℕ → Found → Option (List (List ℕ)) → Found
after_line name found None = found
after_line name found (Some fields) = after_row name found fields

-- what the lines say of the jobs, from this number on
abbrev pub cells_from : ℕ → List ℕ → Found → ℕ → List (List ℕ) → List Cell
cells_from call name found n [] = []
cells_from call name found n (line ∷ lines) =
    line_cells call name found n (record_of line)
    ++ cells_from call name (after_line name found (record_of line)) (n + 1) lines

-- what a table says of the jobs of the process of this name, where a call takes so many ticks
abbrev pub cells_of : ℕ → List ℕ → List ℕ → List Cell
cells_of call name table = cells_from call name Found.Nothing 1 (lines_of table)

-- the steps of a job of so many ticks, of which its wait takes those of a call
abbrev pub job_of : ℕ → ℕ → List Step
job_of call ticks = if nat_lt call ticks then Step.Work (ticks - call) ∷ Step.Wait ∷ [] else Step.Wait ∷ []

abbrev pub does_at : ℕ → Step → Placed
does_at line step = record { line = line; reading = reading.Does step }

abbrev pub job_readings : ℕ → ℕ → ℕ → List Placed
job_readings call line ticks = map (does_at line) (job_of call ticks)

abbrev pub says_readings : ℕ → ℕ → Result ℕ Why → List Placed
says_readings call line (Ok ticks) = job_readings call line ticks
says_readings call line (Err why) = record { line = line; reading = reading.Wrong why } ∷ []

abbrev pub cell_readings : ℕ → Cell → List Placed
cell_readings call cell = says_readings call cell.line cell.says

-- the same as a profile says it
abbrev pub table_readings : ℕ → List ℕ → List ℕ → List Placed
table_readings call name table = flat_map (cell_readings call) (cells_of call name table)

abbrev pub told_ticks : Result ℕ Why → Option ℕ
told_ticks (Ok ticks) = Some ticks
told_ticks (Err why) = None

abbrev pub told : Cell → Option ℕ
told cell = told_ticks cell.says

-- the ticks of the jobs of a table, cell by cell
abbrev pub times_of : ℕ → List ℕ → List ℕ → List ℕ
times_of call name table = filter_map told (cells_of call name table)

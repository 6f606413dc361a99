-- Each job of a table takes at least the ticks of its wait, and at most 1,000,000.
use Rattle.std.proofs.Common.{◌≡◌, refl, ◌+◌, ℕ, Bool, true, false, List, [], ◌∷◌, ◌++◌, length, arith}
use Rattle.std.specs.Prelude.{⊤, nat_le, ◌==◌, ◌&&◌, if◌then◌else◌, option_to_list, Option, Some, None, Result, Ok, Err}
use Rattle.std.specs.List.{AllByRecursion, cons_option, filter_map}
use Rattle.std.specs.Option.{option_map}
use Rattle.std.proofs.lemmas.Bool.Decides.{nat_tests}
use Rattle.dk_asm.specs.Source.{lines_of}
use Rattle.dk_profile.specs.declared.TheConstants.{MAX_WORK}
use Rattle.dk_profile.specs.declared.steps.Why.{Why}
use Rattle.dk_profile.specs.Reading.{amount, in_range, number_of}
use Rattle.dk_times.specs.declared.rows.Found.{Found}
use Rattle.dk_times.specs.declared.table.Cell.{Cell}
use Rattle.dk_times.specs.Laws.{AreTimes, IsTime}
use Rattle.dk_times.specs.Records.{record_of}
use Rattle.dk_times.specs.Rows.{cell_at, cell_says, names_say, place_of, row_says}
use Rattle.dk_times.specs.Table.{after_line, cells_from, line_cells, said_at, told, told_ticks}

-- the ticks that are told are from those of a call on
abbrev IsWithin : ℕ → Result ℕ Why → Type 0
IsWithin call (Ok ticks) = IsTime call ticks
IsWithin call (Err why) = ⊤

abbrev SaysWithin : ℕ → Option (Result ℕ Why) → Type 0
SaysWithin call None = ⊤
SaysWithin call (Some says) = IsWithin call says

abbrev AreWithin : ℕ → List Cell → Type 0
AreWithin call cells = AllByRecursion (λ (cell : Cell). IsWithin call cell.says) cells

chosen : (call : ℕ) (b : Bool) (x y : Option (Result ℕ Why)) → SaysWithin call x → SaysWithin call y → SaysWithin call (if b then x else y)
chosen call true x y a b = a
chosen call false x y a b = b

of_number : (call n : ℕ) (low most : Bool) → nat_le call n ≡ low → nat_le n MAX_WORK ≡ most
    → IsWithin call (if low && most then Ok n else Err (Why.Range call MAX_WORK))
of_number call n true true low most = (grind (arith, nat_tests), grind (arith, nat_tests))
of_number call n true false low most = tt
of_number call n false most low is = tt

of_amount : (call : ℕ) (n : Option ℕ) → IsWithin call (in_range call MAX_WORK n)
of_amount call None = tt
of_amount call (Some n) = of_number call n (nat_le call n) (nat_le n MAX_WORK) refl refl

of_cell : (call : ℕ) (ended : Bool) (cell : List ℕ) → SaysWithin call (cell_says call ended cell)
of_cell call ended cell =
    chosen call (length cell == 0) None (if ended then Some (Err Why.Ended) else Some (amount call MAX_WORK cell)) tt
    (chosen call ended (Some (Err Why.Ended)) (Some (amount call MAX_WORK cell)) tt (of_amount call (number_of cell)))

of_names : (call : ℕ) (place : Option ℕ) → SaysWithin call (names_say place)
of_names call None = tt
of_names call (Some place) = tt

of_row : (call : ℕ) (name : List ℕ) (found : Found) (fields : List (List ℕ)) → SaysWithin call (row_says call name found fields)
of_row call name Found.Nothing fields = of_names call (place_of name fields)
of_row call name Found.NoColumn fields = tt
of_row call name (Found.At column) fields =
    chosen call (length fields == column.width) (cell_says call column.ended (cell_at fields column.place))
    (Some (Err (Why.Cells column.width))) (of_cell call column.ended (cell_at fields column.place)) tt

of_said : (call n : ℕ) (says : Option (Result ℕ Why)) → SaysWithin call says → AreWithin call (option_to_list (option_map (said_at n) says))
of_said call n None h = tt
of_said call n (Some says) h = (h, tt)

of_line : (call : ℕ) (name : List ℕ) (found : Found) (n : ℕ) (row : Option (List (List ℕ))) → AreWithin call (line_cells call name found n row)
of_line call name found n None = tt
of_line call name found n (Some fields) = of_said call n (row_says call name found fields) (of_row call name found fields)

all_of : (call : ℕ) (ones others : List Cell) → AreWithin call ones → AreWithin call others → AreWithin call (ones ++ others)
all_of call [] others a b = b
all_of call (cell ∷ ones) others a b = (a.0, all_of call ones others a.1 b)

of_lines : (call : ℕ) (name : List ℕ) (found : Found) (n : ℕ) (lines : List (List ℕ)) → AreWithin call (cells_from call name found n lines)
of_lines call name found n [] = tt
of_lines call name found n (line ∷ lines) =
    all_of call (line_cells call name found n (record_of line))
    (cells_from call name (after_line name found (record_of line)) (n + 1) lines) (of_line call name found n (record_of line))
    (of_lines call name (after_line name found (record_of line)) (n + 1) lines)

one_told : (call : ℕ) (says : Result ℕ Why) (times : List ℕ) → IsWithin call says → AllByRecursion (IsTime call) times
    → AllByRecursion (IsTime call) (cons_option (told_ticks says) times)
one_told call (Ok ticks) times h more = (h, more)
one_told call (Err why) times h more = more

all_told : (call : ℕ) (cells : List Cell) → AreWithin call cells → AllByRecursion (IsTime call) (filter_map told cells)
all_told call [] h = tt
all_told call (cell ∷ cells) h = one_told call cell.says (filter_map told cells) h.0 (all_told call cells h.1)

pub within : AreTimes
within call name table =
    all_told call (cells_from call name Found.Nothing 1 (lines_of table)) (of_lines call name Found.Nothing 1 (lines_of table))

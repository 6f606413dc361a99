-- How long each mutex of a ledger was held.
use Rattle.std.specs.Prelude.{ℕ, ◌||◌, Bool, nat_lt, if◌then◌else◌, List, [], ◌∷◌, ◌++◌, length, flat_map, slice_get, decimal}
use Rattle.std.specs.Option.{option_map_or}
use Rattle.dk_config.specs.Mutex.{Mutex}
use Rattle.dk_config.specs.Sums.{below}
use Rattle.dk_config.specs.declared.TheConstants.{MAX_MUTEXES}
use Rattle.dk_trace.specs.declared.Entry.{Entry}
use Rattle.dk_ledger.specs.Heading.{Heading, name_of}
use Rattle.show_rows.specs.declared.row.Form.{Form}
use Rattle.show_rows.specs.Rows.{note_told, told}
use Rattle.show_ledger.specs.declared.extremes.Extreme.{Extreme}
use Rattle.show_ledger.specs.declared.extremes.Extreme.TheVariants as extreme
use Rattle.show_ledger.specs.declared.mutexes.TheConstants.{COLUMNS, KNOWN, TOTAL, TOTAL_COLUMNS, UNHELD, UNKNOWN}
use Rattle.show_ledger.specs.declared.measuring.MeasuredHold.{MeasuredHold}
use Rattle.show_ledger.specs.Measured.{holds_of, measured_holds}
use Rattle.show_ledger.specs.Extremes.{extreme_hold, measure}

-- what is compared of a hold, by whom it is, and its first tick
abbrev pub hold_row : Heading → ℕ → MeasuredHold → List (List ℕ)
hold_row h ticks m = decimal ticks ∷ name_of h m.hold.thread.process ∷ decimal m.hold.thread.serial ∷ decimal m.hold.start ∷ []

-- the extreme one of these holds, if there are any
abbrev pub extreme_row : Heading → Extreme → List MeasuredHold → List (List ℕ)
extreme_row h x hs = option_map_or (λ m. hold_row h (measure x m) m) (extreme_hold x hs) ([] ∷ [] ∷ [] ∷ [] ∷ [])

-- its name and the longest hold that it may have, where they are known; else its number
abbrev pub mutex_row : List Mutex → ℕ → List (List ℕ)
mutex_row rows m = option_map_or (λ row. row.name ∷ decimal row.hold ∷ []) (slice_get rows m) (decimal m ∷ [] ∷ [])

-- a mutex with these holds
abbrev pub whole_row : List Mutex → Heading → ℕ → List MeasuredHold → List (List ℕ)
whole_row rows h m hs =
    mutex_row rows m ++ (decimal (length hs) ∷ (extreme_row h extreme.Longest hs ++ (extreme_row h extreme.Shortest hs ++ extreme_row h extreme.MostOwn hs)))

-- whether its row is known, and whether it was held
abbrev pub sentence_of : List Mutex → ℕ → List MeasuredHold → List ℕ
sentence_of rows m hs =
    if nat_lt m (length rows) then (if nat_lt 0 (length hs) then KNOWN.now else UNHELD.now) else UNKNOWN.now

abbrev pub row_told : List Mutex → Heading → ℕ → List MeasuredHold → List ℕ
row_told rows h m hs = told Form.Line COLUMNS.now (sentence_of rows m hs) (whole_row rows h m hs)

-- it has a line: its row is known, or it was held
abbrev pub is_told : List Mutex → ℕ → List MeasuredHold → Bool
is_told rows m hs = nat_lt m (length rows) || nat_lt 0 (length hs)

-- of a mutex, where these are the holds of all
abbrev pub mutex_told : List Mutex → Heading → List MeasuredHold → ℕ → List ℕ
mutex_told rows h all m = if is_told rows m (holds_of m all) then row_told rows h m (holds_of m all) else []

abbrev pub total_told : ℕ → List ℕ
total_told n = note_told Form.Line TOTAL_COLUMNS.now TOTAL.now (decimal n ∷ [])

-- A line for each mutex whose row is known or that was held, and last how many holds there are.
abbrev pub holds_text : List Mutex → Heading → List Entry → List ℕ
holds_text rows h es =
    flat_map (mutex_told rows h (measured_holds es)) (below MAX_MUTEXES) ++ total_told (length (measured_holds es))

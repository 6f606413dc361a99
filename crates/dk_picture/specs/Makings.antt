-- The lines up to the range's end whose event makes a child, since children may have parts of their main's budget.
use Rattle.std.specs.Prelude.{ℕ, ◌+◌, ◌&&◌, [], ◌∷◌, Bool, true, false, List, Option, Some, flat_map, if◌then◌else◌, nat_le}
use Rattle.std.specs.List.{list_any}
use Rattle.std.specs.Option.{option_map_or}
use Rattle.dk_trace.specs.declared.ThreadId.{ThreadId}
use Rattle.dk_trace.specs.declared.Event.{Event}
use Rattle.dk_trace.specs.declared.Entry.{Entry}
use Rattle.dk_trace.specs.Entries.{is_same, thread_of}
use Rattle.dk_ledger.specs.declared.line.LedgerLine.{LedgerLine}
use Rattle.dk_groups.specs.Groups.{groups}

abbrev pub makes_child : Option Event → Bool
makes_child (Some (Event.Create serial level quota)) = true
makes_child _ = false

abbrev pub making_of : LedgerLine → List LedgerLine
making_of g = if makes_child g.event then g ∷ [] else []

abbrev pub makings : List LedgerLine → List LedgerLine
makings gs = flat_map making_of gs

abbrev pub makings_in : ℕ → List Entry → List LedgerLine
makings_in to es = makings (groups 0 to es)

-- a line of the thread that ends before this tick
abbrev pub is_line_before : ThreadId → ℕ → LedgerLine → Bool
is_line_before x tick g = option_map_or (is_same x) (thread_of g.label) false && nat_le (g.start + g.count) tick

-- whether the main made a child before this tick
abbrev pub has_made : List LedgerLine → ThreadId → ℕ → Bool
has_made ms x tick = list_any (is_line_before x tick) ms

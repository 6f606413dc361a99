-- What a lock by the tables has made of them.
use Rattle.dk_dispatch.proofs.Names.{◌≡◌, ℕ, List, Some, refl, ThreadId, Tables, Lockable, effective_level, given_to, hold_left, hold_of, Cells, level_in, cells_held, locked}

-- what a lock has made of the tables, piece by piece
pub locked-tables : (x : ThreadId) (m : ℕ) (d t : Tables) (level before after left : ℕ) (rows : List Lockable) (cells : Cells)
    → t ≡ d → level ≡ level_in t x
    → rows ≡ given_to (Some (record { thread = x; level = level; left = hold_of t.mutexes m })) m t.mutexes
    → before ≡ effective_level x level t.mutexes → after ≡ effective_level x level rows → left ≡ hold_left x rows
    → cells ≡ cells_held after before 0 left t.demand
    → record t { mutexes = rows; demand = cells } ≡ locked x m d
locked-tables x m d t level before after left rows cells same leveled given was is of held = rw (held, of, is, was, given, leveled, same) refl

-- The holds of a ledger's mutexes, with the ticks that their threads had in them. Entries go on from tick 0.
use Rattle.std.specs.Prelude.{ℕ, ◌==◌, Bool, List, drop, filter, length, map, take}
use Rattle.dk_trace.specs.declared.Entry.{Entry}
use Rattle.dk_trace.specs.Entries.{is_of}
use Rattle.dk_hold_spans.specs.declared.hold.Hold.{Hold}
use Rattle.dk_hold_spans.specs.HoldLists.{holds_in}
use Rattle.show_ledger.specs.declared.measuring.MeasuredHold.{MeasuredHold}

-- the entries from tick `start` on up to before tick `end`
abbrev pub entries_in : ℕ → ℕ → List Entry → List Entry
entries_in start end es = drop start (take end es)

-- how many of the ticks of the hold its thread had
abbrev pub own_ticks : List Entry → Hold → ℕ
own_ticks es h = length (filter (is_of h.thread) (entries_in h.start h.end es))

abbrev pub measured : List Entry → Hold → MeasuredHold
measured es h = record { hold = h; own = own_ticks es h }

-- The holds of the ledger of these entries, in the order of their ends. One that goes on at the end of the ledger is among
-- them, up to there.
abbrev pub measured_holds : List Entry → List MeasuredHold
measured_holds es = map (measured es) (holds_in 0 (length es) es)

abbrev pub is_of_mutex : ℕ → MeasuredHold → Bool
is_of_mutex m h = h.hold.mutex == m

abbrev pub holds_of : ℕ → List MeasuredHold → List MeasuredHold
holds_of m hs = filter (is_of_mutex m) hs

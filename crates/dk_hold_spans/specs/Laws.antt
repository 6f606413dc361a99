-- What the holds of a range tell of its ticks.
use Rattle.std.specs.Prelude.{ℕ, ◌&&◌, ◌==◌, Bool, List, Option, filter, map, nat_le, nat_lt, option_map, reverse, take}
use Rattle.dk_trace.specs.declared.Entry.{Entry}
use Rattle.dk_trace.specs.declared.ThreadId.{ThreadId}
use Rattle.dk_holds.specs.Holds.{holding}
use Rattle.dk_hold_spans.specs.declared.hold.Hold.{Hold}

-- whether the hold is one of mutex m and has tick t
abbrev pub has_tick : ℕ → ℕ → Hold → Bool
has_tick m t h = (h.mutex == m) && (nat_le h.start t && nat_lt t h.end)

-- the threads that hold mutex m in tick t, by these holds
abbrev pub threads_at : ℕ → ℕ → List Hold → List ThreadId
threads_at m t hs = map (λ h. h.thread) (filter (has_tick m t) hs)

-- the thread that holds mutex m in tick t, by the ledger's entries before it
abbrev pub holder_at : ℕ → ℕ → List Entry → Option ThreadId
holder_at m t es = option_map (λ h. h.thread) (holding m (reverse (take t es)))

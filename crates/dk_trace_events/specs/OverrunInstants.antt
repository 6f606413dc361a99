-- The windows that were overrun: an instant of the thread, at its last tick of the budget in the window.
use Rattle.std.specs.Prelude.{ℕ, ◌/◌, ◌++◌, ◌&&◌, [], Bool, List, codes, decimal, flat_map, not, nat_lt, if◌then◌else◌}
use Rattle.dk_overrun_spans.specs.declared.overrun.Overrun.{Overrun}
use Rattle.dk_trace_events.specs.Slices.{place_text}
use Rattle.dk_trace_events.specs.Words.{thread_track}

-- the number of the window among those of its level, from 0
abbrev pub window_of : Overrun → ℕ
window_of o = o.start / o.period

abbrev pub overrun_instant : Overrun → List ℕ
overrun_instant o =
    codes "{\"args\":{\"window\":" ++ decimal (window_of o) ++ codes "},\"cat\":\"overrun\",\"name\":\"overran window "
    ++ decimal (window_of o) ++ codes "\",\"ph\":\"i\",\"s\":\"t\"" ++ place_text (thread_track o.thread) ++ codes ",\"ts\":"
    ++ decimal o.last ++ codes "},\n"

-- its last tick is one of the range
abbrev pub is_shown : ℕ → ℕ → Overrun → Bool
is_shown from to o = not (nat_lt o.last from) && nat_lt o.last to

abbrev pub shown_overrun : ℕ → ℕ → Overrun → List ℕ
shown_overrun from to o = if is_shown from to o then overrun_instant o else []

abbrev pub overruns_text : ℕ → ℕ → List Overrun → List ℕ
overruns_text from to os = flat_map (shown_overrun from to) os

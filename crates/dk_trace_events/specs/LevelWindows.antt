-- The windows of each level: slices on a track of the level.
use Rattle.std.specs.Prelude.{ℕ, suc, ◌+◌, ◌-◌, ◌*◌, ◌/◌, ◌++◌, ◌==◌, [], ◌∷◌, List, codes, decimal, flat_map, max, min, nat_lt, if◌then◌else◌}
use Rattle.dk_config.specs.Sums.{numbers}
use Rattle.dk_certify.specs.declared.table.TableRow.{TableRow}
use Rattle.dk_trace_events.specs.declared.tracks.Track.{Track}
use Rattle.dk_trace_events.specs.Slices.{place_text}

-- beside the kernel's work
abbrev pub level_track : ℕ → Track
level_track j = record { pid = 1; tid = 10 + j }

abbrev pub level_name : ℕ → ℕ → List ℕ
level_name j period =
    codes "{\"args\":{\"name\":\"level " ++ decimal j ++ codes " period " ++ decimal period
    ++ codes "\"},\"name\":\"thread_name\",\"ph\":\"M\"" ++ place_text (level_track j) ++ codes "},\n"

-- its place among the tracks beside it
abbrev pub level_order : ℕ → List ℕ
level_order j =
    codes "{\"args\":{\"sort_index\":" ++ decimal (2 + j) ++ codes "},\"name\":\"thread_sort_index\",\"ph\":\"M\""
    ++ place_text (level_track j) ++ codes "},\n"

-- of window w of level j, the ticks from `first` up to before `last`
abbrev pub window_slice : ℕ → ℕ → ℕ → ℕ → List ℕ
window_slice j w first last =
    codes "{\"args\":{\"window\":" ++ decimal w ++ codes "},\"cat\":\"window\",\"dur\":" ++ decimal (last - first)
    ++ codes ",\"name\":\"window " ++ decimal w ++ codes "\",\"ph\":\"X\"" ++ place_text (level_track j) ++ codes ",\"ts\":"
    ++ decimal first ++ codes "},\n"

-- of window w of level j, what is shown: its ticks in the range
abbrev pub shown_window : ℕ → ℕ → ℕ → ℕ → ℕ → List ℕ
shown_window from to j period w =
    if nat_lt (max (w * period) from) (min (w * period + period) to)
    then window_slice j w (max (w * period) from) (min (w * period + period) to)
    else []

-- The windows from that of tick `from` up to that of tick `to`. A level with no period has none.
abbrev pub windows_of : ℕ → ℕ → ℕ → ℕ → List ℕ
windows_of from to j period =
    if period == 0 then [] else flat_map (shown_window from to j period) (numbers (from / period) (to / period + 1 - from / period))

abbrev pub level_text : ℕ → ℕ → ℕ → TableRow → List ℕ
level_text from to j row = (level_name j row.period ++ level_order j) ++ windows_of from to j row.period

-- of the levels from j on, in a range
abbrev pub level_texts : ℕ → ℕ → ℕ → List TableRow → List ℕ
level_texts from to j [] = []
level_texts from to j (row ∷ rows) = level_text from to j row ++ level_texts from to (suc j) rows

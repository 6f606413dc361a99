-- The windows of each level, as a ruler above the rows and as lines across the bars of rows.
use Rattle.std.specs.Prelude.{ℕ, ◌+◌, ◌-◌, ◌*◌, ◌/◌, ◌%◌, ◌++◌, ◌==◌, ◌&&◌, [], ◌∷◌, List, codes, decimal, flat_map, nat_le, nat_lt, if◌then◌else◌}
use Rattle.dk_config.specs.Sums.{below}
use Rattle.dk_certify.specs.declared.table.TableRow.{TableRow}
use Rattle.dk_picture.specs.declared.span.Span.{Span}
use Rattle.dk_picture.specs.declared.windows.Window.{Window}
use Rattle.dk_picture.specs.Elements.{rect, titled_rect, words_at}
use Rattle.dk_picture.specs.Frames.{level_top}
use Rattle.dk_picture.specs.Numbers.{plot_left, plot_width}
use Rattle.dk_picture.specs.Places.{has_pixels, place_of, room_for}

-- neighbours have two shades
abbrev pub stripe : ℕ → List ℕ
stripe w = if w % 2 == 0 then codes "z" else codes "y"

abbrev pub window_title : Window → List ℕ
window_title w = codes "window "
    ++ (decimal w.number ++ (codes " of level " ++ (decimal w.level ++ (codes ": "
    ++ (decimal w.first ++ (codes " to " ++ decimal w.end))))))

-- how wide its part in the range is
abbrev pub window_width : Span → Window → ℕ
window_width s w = place_of s w.end - place_of s w.first

abbrev pub window_rect : Span → Window → List ℕ
window_rect s w = titled_rect (stripe w.number)
    (record { x = place_of s w.first; y = level_top w.level; width = window_width s w; height = 13 }) (window_title w)

-- its first tick as a number, where it has room
abbrev pub number_text : Span → Window → List ℕ
number_text s w =
    if nat_le (room_for w.first) (window_width s w)
    then words_at (codes "m") (place_of s w.first + 3) (level_top w.level + 10) (decimal w.first)
    else []

-- a window that begins in the range
abbrev pub begin_text : Span → Window → List ℕ
begin_text s w = if nat_lt w.first s.from then [] else number_text s w

unfoldable pub window_text : Span → Window → List ℕ
window_text s w = window_rect s w ++ begin_text s w

-- the windows of level j by their numbers
abbrev pub window_at : ℕ → ℕ → ℕ → Window
window_at j period w = record { level = j; number = w; first = w * period; end = w * period + period }

-- how many have a tick in the range, and which
abbrev pub window_count : Span → ℕ → ℕ
window_count s period = ((s.to - 1) / period + 1) - s.from / period

abbrev pub windows_in : Span → ℕ → ℕ → List Window
windows_in s j period = flat_map (λ i. window_at j period (s.from / period + i) ∷ []) (below (window_count s period))

abbrev pub windows_text : Span → ℕ → ℕ → List ℕ
windows_text s j period = flat_map (window_text s) (windows_in s j period)

-- where a window begins in the range, a line across a row's bars
abbrev pub begin_line : Span → ℕ → Window → List ℕ
begin_line s top w =
    if nat_lt w.first s.from then []
    else rect (codes "w") (record { x = place_of s w.first; y = top - 5; width = 1; height = 23 })

abbrev pub begin_lines : Span → ℕ → ℕ → ℕ → List ℕ
begin_lines s top j period = flat_map (begin_line s top) (windows_in s j period)

-- they stand where a window has 12 pixels
abbrev pub own_windows : Span → ℕ → ℕ → ℕ → List ℕ
own_windows s top j period = if nat_lt 0 period && has_pixels s period 12 then begin_lines s top j period else []

-- a ruler is plain where a window has fewer than 6 pixels
abbrev pub ruler_text : Span → ℕ → ℕ → List ℕ
ruler_text s j period =
    if nat_lt 0 period && has_pixels s period 6 then windows_text s j period
    else rect (codes "z") (record { x = plot_left; y = level_top j; width = plot_width; height = 13 })

-- the level and its period, and beside its ruler the other numbers
unfoldable pub level_name : ℕ → ℕ → ℕ → List ℕ
level_name y j period = codes "<text class='t' x='8' y='" ++ (decimal y ++ (codes "'>level " ++ (decimal j
    ++ (codes "</text>\n<text class='m x' x='192' y='" ++ (decimal y ++ (codes "'>" ++ (decimal period
    ++ codes "</text>\n")))))))

unfoldable pub level_numbers : ℕ → ℕ → ℕ → List ℕ
level_numbers y demand blocking = codes "<text class='m x' x='1232' y='" ++ (decimal y ++ (codes "'>" ++ (decimal demand
    ++ (codes "</text>\n<text class='m x' x='1304' y='" ++ (decimal y ++ (codes "'>" ++ (decimal blocking
    ++ codes "</text>\n")))))))

unfoldable pub level_text : Span → ℕ → TableRow → List ℕ
level_text s j row = level_name (level_top j + 10) j row.period
    ++ (level_numbers (level_top j + 10) row.demand row.blocking
    ++ (words_at (codes "m x") 1376 (level_top j + 10) (decimal row.spare) ++ ruler_text s j row.period))

-- of the levels from j on
abbrev pub levels_text : Span → ℕ → List TableRow → List ℕ
levels_text s j [] = []
levels_text s j (row ∷ rows) = level_text s j row ++ levels_text s (j + 1) rows

-- the heads of their columns
unfoldable pub windows_head : List ℕ
windows_head = words_at (codes "m") 8 44 (codes "windows") ++ words_at (codes "m x") 192 44 (codes "period")
    ++ words_at (codes "m x") 1232 44 (codes "demand") ++ words_at (codes "m x") 1304 44 (codes "blocking")
    ++ words_at (codes "m x") 1376 44 (codes "spare")

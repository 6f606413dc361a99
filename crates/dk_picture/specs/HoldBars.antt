-- The rows of the mutexes that are held in the range, below those of the threads, and a bar for each hold.
use Rattle.std.specs.Prelude.{ℕ, ◌+◌, ◌-◌, ◌++◌, ◌==◌, [], ◌∷◌, Bool, List, Option, Some, None, codes, decimal, flat_map, if◌then◌else◌, map, position, slice_get, sum_by, unwrap_or}
use Rattle.std.specs.List.{list_any}
use Rattle.dk_config.specs.Sums.{below}
use Rattle.dk_config.specs.declared.TheConstants.{MAX_MUTEXES}
use Rattle.dk_ledger.specs.Heading.{Heading}
use Rattle.dk_ledger.specs.LineText.{thread_text}
use Rattle.dk_hold_spans.specs.declared.hold.Hold.{Hold}
use Rattle.dk_picture.specs.declared.frame.Frame.{Frame}
use Rattle.dk_picture.specs.Elements.{titled_rect}
use Rattle.dk_picture.specs.Frames.{mutex_top}

abbrev pub is_of_mutex : ℕ → Hold → Bool
is_of_mutex m d = d.mutex == m

abbrev pub row_of_mutex : List Hold → ℕ → List ℕ
row_of_mutex ds m = if list_any (is_of_mutex m) ds then m ∷ [] else []

-- the mutexes that are held, each once
abbrev pub mutex_rows : List Hold → List ℕ
mutex_rows ds = flat_map (row_of_mutex ds) (below MAX_MUTEXES)

-- the number of the mutex's row
abbrev pub mutex_row : List ℕ → ℕ → ℕ
mutex_row ms m = unwrap_or (position (λ k. k == m) ms) 0

-- the first tick, the ticks, the thread and the mutex
unfoldable pub hold_words : ℕ → ℕ → List ℕ → ℕ → List ℕ
hold_words start count thread mutex = decimal start ++ (codes " " ++ (decimal count ++ (codes " "
    ++ (thread ++ (codes " holds " ++ decimal mutex)))))

-- the bar of a hold: the number of its row, its ticks from the first drawn on, and what it tells to the pointer
pub record HoldBar : Type 0 where
  pub row : ℕ
  pub start : ℕ
  pub count : ℕ
  pub title : List ℕ

abbrev pub hold_bar : Heading → List ℕ → ℕ → Hold → HoldBar
hold_bar h ms from d = record {
  row = mutex_row ms d.mutex;
  start = d.start - from;
  count = d.end - d.start;
  title = hold_words d.start (d.end - d.start) (thread_text h d.thread) d.mutex;
}

abbrev pub hold_bars : Heading → List ℕ → ℕ → List Hold → List HoldBar
hold_bars h ms from ds = map (hold_bar h ms from) ds

-- its colour, and its height
abbrev pub hold_class : List ℕ
hold_class = codes "h"

abbrev pub hold_height : ℕ
hold_height = 10

abbrev pub hold_bar_text : Frame → HoldBar → List ℕ
hold_bar_text f b = titled_rect hold_class
    (record { x = b.start; y = mutex_top f b.row; width = b.count; height = hold_height }) b.title

abbrev pub hold_bars_text : Frame → List HoldBar → List ℕ
hold_bars_text f bs = flat_map (hold_bar_text f) bs

-- the ticks in which the mutex is held
abbrev pub held_weight : ℕ → Hold → ℕ
held_weight m d = if d.mutex == m then d.end - d.start else 0

abbrev pub held_ticks : List Hold → ℕ → ℕ
held_ticks ds m = sum_by (held_weight m) ds

-- the line below the row's bars, the mutex, and its ticks
unfoldable pub mutex_line : ℕ → ℕ → ℕ → List ℕ → ℕ → List ℕ
mutex_line y foot m name ticks = codes "<rect class='g' x='200' y='" ++ (decimal y
    ++ (codes "' width='960' height='1'/>\n<text class='t' x='8' y='" ++ (decimal foot ++ (codes "'>mutex " ++ (decimal m
    ++ (name ++ (codes "</text>\n<text class='t x' x='1232' y='" ++ (decimal foot ++ (codes "'>" ++ (decimal ticks
    ++ codes "</text>\n"))))))))))

-- the mutex's name, where it is known
abbrev pub name_part : Option (List ℕ) → List ℕ
name_part None = []
name_part (Some name) = codes " " ++ name

abbrev pub mutex_text : List (List ℕ) → List Hold → ℕ → ℕ → List ℕ
mutex_text names ds top m = mutex_line (top + 10) (top + 9) m (name_part (slice_get names m)) (held_ticks ds m)

-- the rows from number i on
abbrev pub mutexes_text : List (List ℕ) → List Hold → Frame → ℕ → List ℕ → List ℕ
mutexes_text names ds f i [] = []
mutexes_text names ds f i (m ∷ ms) = mutex_text names ds (mutex_top f i) m ++ mutexes_text names ds f (i + 1) ms

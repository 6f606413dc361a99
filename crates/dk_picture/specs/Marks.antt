-- The marks of events, one for each, and their text.
use Rattle.std.specs.Prelude.{ℕ, ◌+◌, ◌-◌, ◌*◌, ◌/◌, ◌++◌, ◌==◌, ◌&&◌, [], ◌∷◌, Bool, true, false, not, List, Option, Some, None, codes, decimal, flat_map, if◌then◌else◌, nat_lt, sum_by}
use Rattle.std.specs.List.{list_any}
use Rattle.std.specs.Option.{option_map_or}
use Rattle.dk_trace.specs.declared.Label.{Label}
use Rattle.dk_trace.specs.declared.Event.{Event}
use Rattle.dk_trace.specs.Entries.{thread_of}
use Rattle.dk_trace.specs.Refusals.{number}
use Rattle.dk_ledger.specs.declared.line.LedgerLine.{LedgerLine}
use Rattle.dk_ledger.specs.Heading.{Heading}
use Rattle.dk_ledger.specs.LineText.{event_text, thread_text}
use Rattle.dk_picture.specs.declared.frame.Frame.{Frame}
use Rattle.dk_picture.specs.declared.rows.Row.{Row}
use Rattle.dk_picture.specs.declared.span.Span.{Span}
use Rattle.dk_picture.specs.Elements.{words_at}
use Rattle.dk_picture.specs.Frames.{top_of}
use Rattle.dk_picture.specs.Numbers.{plot_left}
use Rattle.dk_picture.specs.Places.{has_pixels, middle_of}
use Rattle.dk_picture.specs.Rows.{row_at}
use Rattle.dk_picture.specs.Scenes.{Scene}

-- a mark: the number of its row, its tick, the event, and what it tells to the pointer
pub record Mark : Type 0 where
  pub row : ℕ
  pub tick : ℕ
  pub event : Event
  pub title : List ℕ

-- the outline of an event's mark, from its middle
abbrev pub outline : Event → List ℕ
outline Event.Wait = codes "m-3 -3h2v7h-2zm4 0h2v7h-2z"
outline Event.Exit = codes "m-3 -3h7v7h-7z"
outline (Event.Create serial level quota) = codes "m-1 -3h2v2h2v2h-2v2h-2v-2h-2v-2h2z"
outline (Event.Delete serial) = codes "m-3 -1h6v2h-6z"
outline (Event.Lock m) = codes "m-3 0h2v-3h3v3h2v4h-7z"
outline (Event.Unlock m) = codes "m-3 0h2v-3h1v3h4v4h-7z"
outline (Event.Slack amount) = codes "m0 -4l4 8h-8z"
outline (Event.Put value) = codes "m0 -4l4 4l-4 4l-4 -4z"
outline (Event.Refused refusal) = codes "m0 5l4 -9h-8z"
outline (Event.Fault kind) = codes "m-4 -2l2 -2l2 2l2 -2l2 2l-2 2l2 2l-2 2l-2 -2l-2 2l-2 -2l2 -2z"

-- these are marked below the bars, the others above them
abbrev pub is_urgent : Event → Bool
is_urgent (Event.Refused refusal) = true
is_urgent (Event.Fault kind) = true
is_urgent _ = false

abbrev pub mark_class : Event → List ℕ
mark_class e = if is_urgent e then codes "u" else codes "e"

-- of a number of such events
abbrev pub sum_class : Event → List ℕ
sum_class e = if is_urgent e then codes "u s c" else codes "s c"

abbrev pub mark_y : ℕ → Event → ℕ
mark_y top e = if is_urgent e then top + 16 else top - 6

unfoldable pub mark_line : List ℕ → ℕ → ℕ → List ℕ → List ℕ → List ℕ
mark_line class x y shape title = codes "<path class='" ++ (class ++ (codes "' d='M" ++ (decimal x ++ (codes " "
    ++ (decimal y ++ (shape ++ (codes "'><title>" ++ (title ++ codes "</title></path>\n"))))))))

abbrev pub titled : ℕ → List ℕ → List ℕ → List ℕ
titled tick thread event = decimal tick ++ (codes " " ++ (thread ++ (codes " " ++ event)))

-- the thread of the label, and nothing where it has none
abbrev pub owner_words : Heading → Label → List ℕ
owner_words h label = option_map_or (thread_text h) (thread_of label) []

-- the tick, the thread and the event
abbrev pub mark_title : Heading → ℕ → Label → Event → List ℕ
mark_title h tick label event = titled tick (owner_words h label) (event_text event)

abbrev pub mark_at : Frame → Span → ℕ → ℕ → Event → List ℕ → List ℕ
mark_at f s row tick event title =
    mark_line (mark_class event) (middle_of s tick) (mark_y (top_of f row) event) (outline event) title

-- ---- marks that would smear into one another

-- the strip of 24 pixels in which the mark of the tick stands
abbrev pub strip_of : Span → ℕ → ℕ
strip_of s t = (middle_of s t - plot_left) / 24

-- events that are marked below the bars, or those above them
abbrev pub is_on_side : Bool → Option Event → Bool
is_on_side below None = false
is_on_side below (Some e) = if below then is_urgent e else not (is_urgent e)

abbrev pub last_of : LedgerLine → ℕ
last_of g = g.start + (g.count - 1)

-- whether the group's event is marked in this strip, on this side of the row's bars
abbrev pub is_in_strip : Span → List Row → ℕ → Bool → ℕ → LedgerLine → Bool
is_in_strip s rows row below strip g =
    is_on_side below g.event && (strip_of s (last_of g) == strip) && (row_at rows g.label == row)

abbrev pub strip_weight : Span → List Row → ℕ → Bool → ℕ → LedgerLine → ℕ
strip_weight s rows row below strip g = if is_in_strip s rows row below strip g then 1 else 0

abbrev pub strip_sum : Span → Scene → ℕ → Bool → ℕ → ℕ
strip_sum s c row below strip = sum_by (strip_weight s c.rows row below strip) c.groups

-- whether it is of an earlier tick
abbrev pub is_before : Span → List Row → ℕ → Bool → ℕ → ℕ → LedgerLine → Bool
is_before s rows row below strip tick g = is_in_strip s rows row below strip g && nat_lt (last_of g) tick

-- where the first of more than one in a strip stands, their number stands in the strip's middle
abbrev pub sum_text : Frame → Span → Scene → ℕ → ℕ → Event → List ℕ
sum_text f s c row tick e = if list_any (is_before s c.rows row (is_urgent e) (strip_of s tick) tick) c.groups then []
    else words_at (sum_class e) ((plot_left + 12) + 24 * strip_of s tick) (mark_y (top_of f row) e + 3)
    (decimal (strip_sum s c row (is_urgent e) (strip_of s tick)))

-- ---- the number of a refusal, beside its mark

-- whether a mark below the row's bars stands between these places
abbrev pub is_in_way : Span → List Row → ℕ → ℕ → ℕ → LedgerLine → Bool
is_in_way s rows row left right g = is_on_side true g.event && (row_at rows g.label == row)
    && nat_lt left (middle_of s (last_of g)) && nat_lt (middle_of s (last_of g)) right

-- it stands where no mark to the right is in its way
abbrev pub refusal_text : Frame → Span → Scene → ℕ → ℕ → Event → List ℕ
refusal_text f s c row tick (Event.Refused refusal) =
    if list_any (is_in_way s c.rows row (middle_of s tick) (middle_of s tick + 24)) c.groups then []
    else words_at (codes "u s") (middle_of s tick + 5) (top_of f row + 20) (decimal (number refusal))
refusal_text f s c row tick _ = []

abbrev pub single_text : Frame → Span → Scene → ℕ → ℕ → Event → List ℕ → List ℕ
single_text f s c row tick e title = mark_at f s row tick e title ++ refusal_text f s c row tick e

-- Marks smear only where a tick has fewer pixels than a mark, which is 9 wide.
abbrev pub is_crowded : Span → Scene → ℕ → ℕ → Event → Bool
is_crowded s c row tick e = not (has_pixels s 1 9) && nat_lt 1 (strip_sum s c row (is_urgent e) (strip_of s tick))

abbrev pub mark_in : Frame → Span → Scene → ℕ → ℕ → Event → List ℕ → List ℕ
mark_in f s c row tick e title =
    if is_crowded s c row tick e then sum_text f s c row tick e else single_text f s c row tick e title

abbrev pub mark_text : Frame → Span → Scene → Mark → List ℕ
mark_text f s c m = mark_in f s c m.row m.tick m.event m.title

-- the mark of an event in the row of its label
abbrev pub mark_of : Heading → List Row → ℕ → Label → Event → Mark
mark_of h rows tick label event =
    record { row = row_at rows label; tick = tick; event = event; title = mark_title h tick label event }

abbrev pub marks_at : Heading → List Row → ℕ → Label → Option Event → List Mark
marks_at h rows tick label None = []
marks_at h rows tick label (Some event) = mark_of h rows tick label event ∷ []

-- the mark of a group's event, where it has one, at its last tick
abbrev pub marks_of : Heading → List Row → LedgerLine → List Mark
marks_of h rows g = marks_at h rows (last_of g) g.label g.event

-- the marks of all groups
abbrev pub marks : Heading → List Row → List LedgerLine → List Mark
marks h rows gs = flat_map (marks_of h rows) gs

abbrev pub marks_text : Frame → Span → Scene → List Mark → List ℕ
marks_text f s c ms = flat_map (mark_text f s c) ms

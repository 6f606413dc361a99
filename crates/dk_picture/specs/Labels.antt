-- The words at bars, each only where its bar is wide enough for them, and the lines that part neighbours.
use Rattle.std.specs.Prelude.{ℕ, ◌+◌, ◌-◌, ◌/◌, ◌++◌, [], List, Option, Some, None, codes, decimal, flat_map, if◌then◌else◌, length, nat_le, slice_get}
use Rattle.dk_trace.specs.declared.Label.{Label}
use Rattle.dk_trace.specs.declared.ThreadId.{ThreadId}
use Rattle.dk_trace.specs.Entries.{thread_of}
use Rattle.dk_ledger.specs.declared.line.LedgerLine.{LedgerLine}
use Rattle.dk_ledger.specs.Heading.{Heading}
use Rattle.dk_ledger.specs.LineText.{thread_text}
use Rattle.dk_hold_spans.specs.declared.hold.Hold.{Hold}
use Rattle.dk_picture.specs.declared.frame.Frame.{Frame}
use Rattle.dk_picture.specs.declared.rows.Row.{Row}
use Rattle.dk_picture.specs.declared.rows.Row.TheVariants as row
use Rattle.dk_picture.specs.declared.span.Span.{Span}
use Rattle.dk_picture.specs.Bars.{height_of, shift_of}
use Rattle.dk_picture.specs.Columns.{is_idle}
use Rattle.dk_picture.specs.Elements.{rect, words_at}
use Rattle.dk_picture.specs.Frames.{mutex_top, top_of}
use Rattle.dk_picture.specs.HoldBars.{mutex_row}
use Rattle.dk_picture.specs.Places.{has_pixels, place_of}
use Rattle.dk_picture.specs.Rows.{row_at}

-- the letters, of 6 pixels each, for which a bar of these ticks has room, with 2 pixels left on both sides
abbrev pub room_in : Span → ℕ → ℕ → ℕ
room_in s first end = ((place_of s end - place_of s first) - 4) / 6

-- the words at the bar from tick `first` up to before tick `end`, where it is wide enough
abbrev pub label_at : Span → List ℕ → ℕ → ℕ → ℕ → List ℕ → List ℕ
label_at s class y first end words =
    if nat_le (length words) (room_in s first end) then words_at class (place_of s first + 2) y words else []

-- which child it is, below the bar
abbrev pub serial_label : Frame → Span → ℕ → LedgerLine → Option ThreadId → List ℕ
serial_label f s i g None = []
serial_label f s i g (Some x) =
    label_at s (codes "m s") (top_of f i + 21) g.start (g.start + g.count) (decimal x.serial)

-- that stands where children share the row
abbrev pub shared_label : Frame → Span → ℕ → LedgerLine → Option Row → List ℕ
shared_label f s i g (Some (row.Children p)) = serial_label f s i g (thread_of g.label)
shared_label f s i g _ = []

abbrev pub thread_label : Frame → Span → List Row → LedgerLine → List ℕ
thread_label f s rows g = shared_label f s (row_at rows g.label) g (slice_get rows (row_at rows g.label))

-- of the kernel's work its level stands in the bar
abbrev pub group_label : Frame → Span → List Row → LedgerLine → Label → List ℕ
group_label f s rows g (Label.Kernel j) =
    label_at s (codes "kt") (top_of f (row_at rows g.label) + 10) g.start (g.start + g.count) (decimal j)
group_label f s rows g _ = thread_label f s rows g

abbrev pub group_labels : Frame → Span → List Row → List LedgerLine → List ℕ
group_labels f s rows gs = flat_map (λ g. group_label f s rows g g.label) gs

-- who holds the mutex stands in the bar of the hold
abbrev pub hold_label : Heading → Frame → Span → List ℕ → Hold → List ℕ
hold_label h f s ms d =
    label_at s (codes "ht") (mutex_top f (mutex_row ms d.mutex) + 8) d.start d.end (thread_text h d.thread)

abbrev pub hold_labels : Heading → Frame → Span → List ℕ → List Hold → List ℕ
hold_labels h f s ms ds = flat_map (hold_label h f s ms) ds

-- the line that parts a bar from the one before
abbrev pub edge_of : Frame → Span → List Row → LedgerLine → List ℕ
edge_of f s rows g =
    if is_idle g.label then []
    else rect (codes "bg") (record {
      x = place_of s g.start;
      y = top_of f (row_at rows g.label) + shift_of g.label;
      width = 1;
      height = height_of g.label;
    })

-- the line that parts a hold from the one before
abbrev pub hold_edge_of : Frame → Span → List ℕ → Hold → List ℕ
hold_edge_of f s ms d =
    rect (codes "bg") (record { x = place_of s d.start; y = mutex_top f (mutex_row ms d.mutex); width = 1; height = 10 })

-- lines stand only where a tick has 3 pixels
abbrev pub edges_text : Frame → Span → List Row → List ℕ → List LedgerLine → List Hold → List ℕ
edges_text f s rows ms gs ds =
    if has_pixels s 1 3 then flat_map (edge_of f s rows) gs ++ flat_map (hold_edge_of f s ms) ds else []

-- the lines, and then the words
unfoldable pub labels_text : Heading → Frame → Span → List Row → List ℕ → List LedgerLine → List Hold → List ℕ
labels_text h f s rows ms gs ds =
    edges_text f s rows ms gs ds ++ (group_labels f s rows gs ++ hold_labels h f s ms ds)

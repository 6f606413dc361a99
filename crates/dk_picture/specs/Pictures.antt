-- The whole picture.
use Rattle.std.specs.Prelude.{ℕ, ◌≡◌, ◌<◌, ◌≤◌, ◌+◌, ◌++◌, List, Some, codes, decimal, length, slice_get}
use Rattle.dk_trace.specs.declared.Entry.{Entry}
use Rattle.dk_ledger.specs.declared.line.LedgerLine.{LedgerLine}
use Rattle.dk_ledger.specs.Heading.{Heading}
use Rattle.dk_ledger.specs.Readable.{Journal, IsReadable, text_of}
use Rattle.dk_groups.specs.Groups.{groups}
use Rattle.dk_hold_spans.specs.declared.hold.Hold.{Hold}
use Rattle.dk_hold_spans.specs.HoldLists.{holds_in}
use Rattle.dk_picture.specs.declared.frame.Frame.{Frame}
use Rattle.dk_picture.specs.declared.span.Span.{Span}
use Rattle.dk_picture.specs.Axis.{axis_text}
use Rattle.dk_picture.specs.Bars.{bars, plot_text}
use Rattle.dk_picture.specs.Frames.{bottom_of, head_of}
use Rattle.dk_picture.specs.HoldBars.{hold_bars, mutexes_text}
use Rattle.dk_picture.specs.Labels.{labels_text}
use Rattle.dk_picture.specs.Legends.{legend_rows}
use Rattle.dk_picture.specs.Makings.{makings_in}
use Rattle.dk_picture.specs.Marks.{marks, marks_text}
use Rattle.dk_picture.specs.Numbers.{max_groups}
use Rattle.dk_picture.specs.Opening.{opening_text}
use Rattle.dk_picture.specs.PromiseMarks.{key_text}
use Rattle.dk_picture.specs.Promises.{Promised, nothing_promised}
use Rattle.dk_picture.specs.RowTexts.{quiet_text, rows_head, rows_text}
use Rattle.dk_picture.specs.Scenes.{Scene, frame_of, scene_of}
use Rattle.dk_picture.specs.Shares.{shares, shares_text}
use Rattle.dk_picture.specs.Windows.{levels_text, windows_head}

-- the place of the legend
unfoldable pub legend_head : ℕ → List ℕ
legend_head y = codes "<g transform='translate(0 " ++ (decimal y ++ codes ")'>\n")

-- the legend, with what more it has to name, and the end
unfoldable pub legend_text : ℕ → List ℕ → List ℕ
legend_text y key = legend_head y ++ (key ++ legend_rows)

-- the axis, the legend and the end
unfoldable pub foot_text : Span → Frame → Scene → List ℕ
foot_text s f c = axis_text s f ++ legend_text (bottom_of f) (key_text c)

-- the rows with their names and numbers, the mains without a tick, and the rows of the mutexes
unfoldable pub names_text : Heading → Frame → Span → Scene → List ℕ
names_text h f s c = rows_head (head_of f + 8)
    ++ (rows_text h f s c 0 c.rows ++ (quiet_text h f c.quiet ++ mutexes_text c.promised.names c.holds f 0 c.mutexes))

-- the bars, the words at them, what each main used in its windows, and the marks
unfoldable pub drawn_text : Heading → Frame → Span → Scene → List ℕ
drawn_text h f s c = plot_text f s (bars h c.rows s.from c.groups) (hold_bars h c.mutexes s.from c.holds)
    ++ (labels_text h f s c.rows c.mutexes c.groups c.holds
    ++ (shares_text h f s c (shares h s c) ++ marks_text f s c (marks h c.rows c.groups)))

-- the windows, the rows, their bars and the marks
unfoldable pub body_text : Heading → Frame → Span → Scene → List ℕ
body_text h f s c = windows_head ++ (levels_text s 0 h.levels ++ (names_text h f s c ++ drawn_text h f s c))

unfoldable pub parts_text : Heading → Frame → Span → ℕ → Scene → List ℕ
parts_text h f s n c = opening_text h f s n c.groups ++ (body_text h f s c ++ foot_text s f c)

abbrev pub framed_text : Heading → Span → ℕ → Scene → List ℕ
framed_text h s n c = parts_text h (frame_of h c) s n c

-- the picture of these groups, holds and lines of a ledger of n ticks
abbrev pub picture_text : Heading → Promised → Span → ℕ → List LedgerLine → List Hold → List LedgerLine → List ℕ
picture_text h x s n gs ds ms = framed_text h s n (scene_of h x gs ds ms)

-- the picture of a ledger in a range, with what a configuration promises
abbrev pub promised_svg : Promised → ℕ → ℕ → Heading → List Entry → List ℕ
promised_svg x from to h es =
    picture_text h x (record { from = from; to = to }) (length es) (groups from to es) (holds_in from to es)
    (makings_in to es)

-- without a configuration
abbrev pub svg_text : ℕ → ℕ → Heading → List Entry → List ℕ
svg_text from to h es = promised_svg nothing_promised from to h es

-- There are more groups than a picture has, and the first that is too many begins at this tick.
pub record IsTooMany (gs : List LedgerLine) (t : ℕ) : Type 0 where
  pub more : max_groups < length gs
  pub group : LedgerLine
  pub first : slice_get gs max_groups ≡ Some group
  pub tick : t ≡ group.start

-- TO at this tick is the greatest that leaves no more groups than a picture has.
pub record IsGreatestEnd (from to t : ℕ) (es : List Entry) : Type 0 where
  pub begins : from ≤ t
  pub ends : t < to
  pub fits : length (groups from t es) ≡ max_groups
  pub greater : (u : ℕ) → t < u → max_groups < length (groups from u es)

-- the ledger that can be read of these bytes, with its header and its ticks
pub record IsShown (j : Journal) (h : Heading) (bytes : List ℕ) (ticks : ℕ) : Type 0 where
  pub readable : IsReadable j
  pub text : text_of j ≡ bytes
  pub heading : j.heading ≡ h
  pub count : length j.entries ≡ ticks

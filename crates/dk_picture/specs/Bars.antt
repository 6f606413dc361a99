-- The bars of a picture, one for each group, and their text.
use Rattle.std.specs.Prelude.{ℕ, ◌+◌, ◌-◌, ◌++◌, List, codes, decimal, flat_map, map, if◌then◌else◌}
use Rattle.dk_trace.specs.declared.Source.{Source}
use Rattle.dk_trace.specs.declared.Work.{Work}
use Rattle.dk_trace.specs.declared.Label.{Label}
use Rattle.dk_ledger.specs.declared.line.LedgerLine.{LedgerLine}
use Rattle.dk_ledger.specs.Heading.{Heading}
use Rattle.dk_ledger.specs.LineText.{line_body}
use Rattle.dk_picture.specs.declared.frame.Frame.{Frame}
use Rattle.dk_picture.specs.declared.rows.Row.{Row}
use Rattle.dk_picture.specs.declared.span.Span.{Span}
use Rattle.dk_picture.specs.Elements.{titled_rect}
use Rattle.dk_picture.specs.Frames.{height_of as picture_height, top_of}
use Rattle.dk_picture.specs.HoldBars.{HoldBar, hold_bars_text}
use Rattle.dk_picture.specs.Places.{has_pixels, ticks_in}
use Rattle.dk_picture.specs.Rows.{row_at}

-- a bar: the number of its row, its colour, which part of the row's height it has, its ticks from the first drawn on, and
-- what it tells to the pointer
pub record Bar : Type 0 where
  pub row : ℕ
  pub class : List ℕ
  pub shift : ℕ
  pub height : ℕ
  pub start : ℕ
  pub count : ℕ
  pub title : List ℕ

-- t for timeline, r for reclaimed, and the work
abbrev pub slack_class : Source → Work → List ℕ
slack_class Source.Timeline Work.In = codes "tn"
slack_class Source.Timeline Work.Run = codes "tr"
slack_class Source.Timeline Work.Call = codes "tc"
slack_class (Source.Reclaimed j) Work.In = codes "rn"
slack_class (Source.Reclaimed j) Work.Run = codes "rr"
slack_class (Source.Reclaimed j) Work.Call = codes "rc"

abbrev pub class_of : Label → List ℕ
class_of (Label.Kernel j) = codes "k"
class_of (Label.In x) = codes "n"
class_of (Label.Run x) = codes "r"
class_of (Label.Call x) = codes "c"
class_of (Label.Out x) = codes "o"
class_of (Label.Slack x source work) = slack_class source work
class_of Label.Idle = codes "i"

-- a switch into a thread stands in the lower half of its row
abbrev pub shift_of : Label → ℕ
shift_of (Label.In x) = 6
shift_of (Label.Slack x source Work.In) = 6
shift_of _ = 0

-- a switch is half as high as other work
abbrev pub height_of : Label → ℕ
height_of (Label.In x) = 6
height_of (Label.Out x) = 6
height_of (Label.Slack x source Work.In) = 6
height_of _ = 12

-- the bar of a group; its title is the line of the ledger that it would be
abbrev pub bar_of : Heading → List Row → ℕ → LedgerLine → Bar
bar_of h rows from g = record {
  row = row_at rows g.label;
  class = class_of g.label;
  shift = shift_of g.label;
  height = height_of g.label;
  start = g.start - from;
  count = g.count;
  title = line_body h g;
}

abbrev pub bars : Heading → List Row → ℕ → List LedgerLine → List Bar
bars h rows from gs = map (bar_of h rows from) gs

abbrev pub bar_text : Frame → Bar → List ℕ
bar_text f b = titled_rect b.class
    (record { x = b.start; y = top_of f b.row + b.shift; width = b.count; height = b.height }) b.title

abbrev pub bars_text : Frame → List Bar → List ℕ
bars_text f bs = flat_map (bar_text f) bs

-- where a tick has fewer than 3 pixels each bar is a little wider than it is, so that it is seen
abbrev pub plot_class : Span → List ℕ
plot_class s = if has_pixels s 1 3 then codes "a" else codes "d"

-- an inner picture of so many ticks, in which a unit of x is a tick
unfoldable pub plot_head : List ℕ → ℕ → ℕ → List ℕ
plot_head class ticks height = codes "<svg class='"
    ++ (class ++ (codes "' x='200' width='960' height='" ++ (decimal height ++ (codes "' viewBox='0 0 "
    ++ (decimal ticks ++ (codes " " ++ (decimal height ++ codes "' preserveAspectRatio='none'>\n")))))))

-- that of the bars, which is the plot
unfoldable pub plot_text : Frame → Span → List Bar → List HoldBar → List ℕ
plot_text f s bs hs = plot_head (plot_class s) (ticks_in s) (picture_height f)
    ++ (bars_text f bs ++ (hold_bars_text f hs ++ codes "</svg>\n"))

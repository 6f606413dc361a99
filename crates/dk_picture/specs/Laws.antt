-- What a picture tells of the ledger's entries.
use Rattle.std.specs.Prelude.{ℕ, ◌≡◌, ◌+◌, ◌-◌, ◌*◌, ◌<◌, ◌≤◌, ◌++◌, [], ◌∷◌, List, flat_map, map, replicate}
use Rattle.dk_trace.specs.declared.Label.{Label}
use Rattle.dk_trace.specs.declared.Entry.{Entry}
use Rattle.dk_trace.specs.Members.{Has}
use Rattle.std.specs.Prelude.{Some, slice_get, true}
use Rattle.std.specs.List.{list_any}
use Rattle.dk_ledger.specs.declared.line.LedgerLine.{LedgerLine}
use Rattle.dk_ledger.specs.Heading.{Heading}
use Rattle.dk_groups.specs.Groups.{groups, slice}
use Rattle.dk_hold_spans.specs.declared.hold.Hold.{Hold}
use Rattle.dk_picture.specs.declared.rows.Row.{Row}
use Rattle.dk_picture.specs.declared.span.Span.{Span}
use Rattle.dk_picture.specs.Bars.{Bar, bars, class_of, height_of, shift_of}
use Rattle.dk_picture.specs.HoldBars.{mutex_row}
use Rattle.dk_picture.specs.Marks.{Mark, marks_at}
use Rattle.dk_picture.specs.Places.{has_pixels}
use Rattle.dk_picture.specs.Rows.{is_seen, level_of, row_at, takes}
use Rattle.dk_picture.specs.Scenes.{Scene}
use Rattle.dk_picture.specs.Shares.{main_of, share_in, shares}
use Rattle.dk_picture.specs.Terms.{period_of}
use Rattle.dk_picture.specs.Windows.{window_at}

-- each bar begins where the one before ends, the first at x, and the last ends at n
abbrev pub AddUp : ℕ → List Bar → ℕ → Type 0
AddUp x [] n = x ≡ n
AddUp x (b ∷ bs) n = (b.start ≡ x) × AddUp (x + b.count) bs n

-- how a tick is drawn: in which row, in which colour, and in which part of the row's height
pub record Cell : Type 0 where
  pub row : ℕ
  pub class : List ℕ
  pub shift : ℕ
  pub height : ℕ

-- the ticks of a bar
abbrev pub cells_of : Bar → List Cell
cells_of b = replicate b.count (record { row = b.row; class = b.class; shift = b.shift; height = b.height })

-- a tick with this label
abbrev pub cell_of : List Row → Label → Cell
cell_of rows label = record {
  row = row_at rows label;
  class = class_of label;
  shift = shift_of label;
  height = height_of label;
}

-- Among these rows the bars of a range add up from 0 to its ticks, and tick by tick they are drawn as the entries' labels
-- say.
pub record AreBarsOf (h : Heading) (rows : List Row) (from to : ℕ) (es : List Entry) : Type 0 where
  pub add_up : AddUp 0 (bars h rows from (groups from to es)) (to - from)
  pub ticks : flat_map cells_of (bars h rows from (groups from to es))
      ≡ map (λ e. cell_of rows e.label) (slice from to es)

-- the main of process p has a tick, and its window w lies in the range and has 26 pixels
pub record IsTold (h : Heading) (s : Span) (c : Scene) (p w : ℕ) : Type 0 where
  pub seen : is_seen c.groups p ≡ true
  pub some : 0 < period_of h (level_of h p)
  pub wide : has_pixels s (period_of h (level_of h p)) 26 ≡ true
  pub begins : s.from ≤ w * period_of h (level_of h p)
  pub ends : w * period_of h (level_of h p) + period_of h (level_of h p) ≤ s.to

-- what its main used in the window is among the shares
abbrev pub HasShare : Heading → Span → Scene → ℕ → ℕ → Type 0
HasShare h s c p w = Has (shares h s c) (share_in h c p (window_at (level_of h p) (period_of h (level_of h p)) w))

-- the main of process p has a row
abbrev pub HasMain : List Row → ℕ → Type 0
HasMain rows p = list_any (takes (Label.Run (main_of p))) rows ≡ true

-- some row takes the group's label
abbrev pub HasRow : List Row → LedgerLine → Type 0
HasRow rows g = list_any (takes g.label) rows ≡ true

-- the row of the hold's bar is its mutex's
abbrev pub HasMutexRow : List ℕ → Hold → Type 0
HasMutexRow ms d = slice_get ms (mutex_row ms d.mutex) ≡ Some d.mutex

-- the marks of the events of entries, of which the first is of tick t
abbrev pub marks_from : Heading → List Row → ℕ → List Entry → List Mark
marks_from h rows t [] = []
marks_from h rows t (e ∷ es) = marks_at h rows t e.label e.event ++ marks_from h rows (t + 1) es

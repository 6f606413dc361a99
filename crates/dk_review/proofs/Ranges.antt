-- The range of a picture, and the ticks of a ledger.
use Rattle.std.proofs.Common.{◌≡◌, ◌∙◌, ◌<◌, ℕ, List, ap, subst, sym}
use Rattle.std.specs.Prelude.{Option}
use Rattle.dk_ledger.specs.Heading.{Heading}
use Rattle.dk_ledger.specs.Readable.{Journal}
use Rattle.dk_page.specs.declared.running.Drawing.{Drawing}
use Rattle.dk_picture.specs.Pictures.{IsShown}
use Rattle.dk_review.specs.Runs.{EndsBefore, IsDrawingIn, IsDrawingOf, IsOfLedger, range_within}
use Rattle.dk_review.specs.declared.drawing.Range.{Range}

-- a range that ends behind the last tick
pub ends_before : (range : Option Range) (ticks : ℕ) (j : Journal) (h : Heading) (bytes : List ℕ) → IsShown j h bytes ticks
    → (r : Range) → r ≡ range_within range ticks → ticks < r.to → IsOfLedger (EndsBefore range ticks) bytes
ends_before range ticks j h bytes shown r is behind =
    (j, shown.readable, shown.text, (sym shown.count, subst (λ (x : Range). ticks < x.to) is behind))

-- the picture of a range of so many ticks is that of a range of the ledger
pub of_range : (range : Option Range) (ticks : ℕ) (j : Journal) (h : Heading) (bytes : List ℕ) → IsShown j h bytes ticks
    → (r : Range) (d : Drawing) → r ≡ range_within range ticks → IsDrawingIn r d j → IsOfLedger (IsDrawingOf range d) bytes
of_range range ticks j h bytes shown r d is drawn = (
  j,
  shown.readable,
  shown.text,
  subst (λ x. IsDrawingIn x d j) (is ∙ ap (range_within range) (sym shown.count)) drawn,
)

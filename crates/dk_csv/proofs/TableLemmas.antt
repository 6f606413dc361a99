-- The row of the group that comes next.
use Rattle.std.proofs.Common.{ℕ, ◌≡◌, ◌∙◌, ◌++◌, [], ◌∷◌, List, ap}
use Rattle.std.specs.Prelude.{Some}
use Rattle.dk_ledger.specs.declared.line.LedgerLine.{LedgerLine}
use Rattle.dk_ledger.specs.Heading.{Heading}
use Rattle.dk_ledger.specs.Readable.{Journal, IsReadable}
use Rattle.dk_groups.specs.Cutting.{Cutting, ComesNext}
use Rattle.dk_overrun_spans.specs.declared.overrun.Overrun.{Overrun}
use Rattle.dk_csv.specs.Rows.{group_fields, overran_at, plain_row, record_text}
use Rattle.dk_csv.proofs.PlainRows.{row_is}

-- the row of the next group
pub row_of_next : (j : Journal) (gs : List LedgerLine) (g : LedgerLine) (c : Cutting) → IsReadable j → ComesNext j gs (Some g) c
    → (h : Heading) (os : List Overrun) (n : ℕ) (row : List ℕ) → h ≡ c.reading.kept.heading → n ≡ overran_at os g → row ≡ plain_row h n g
    → row ++ 10 ∷ [] ≡ record_text (group_fields j.heading os g)
row_of_next j gs g c readable comes h os n row is overran text =
    ap (λ t. t ++ 10 ∷ []) (text ∙ ap (λ k. plain_row k n g) (is ∙ comes.1) ∙ ap (λ m. plain_row j.heading m g) overran) ∙ row_is j.heading readable.heading (overran_at os g) g

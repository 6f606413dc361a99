-- Writing back the row of a process.
use Rattle.dk_budget.proofs.Names.{◌≡◌, ◌<◌, ℕ, List, length, map, get_or, set, refill, slice_get-get_or, length-set, length-map, refill-whole, Lender, changed_row, nat_tests, arith}

pub put-row : (change : Lender → Lender) (p : ℕ) (rows : List Lender) (d : Lender) → p < length rows
    → refill (length rows) rows (set rows p (change (get_or rows p d))) ≡ changed_row p change rows
put-row change p rows d below = grind (arith, nat_tests, refill-whole, length-set, slice_get-get_or)

-- all rows written back, where the reference has them all
pub map-written : (change : Lender → Lender) (rows seen new : List Lender) → seen ≡ rows → new ≡ map change seen
    → refill (length rows) rows new ≡ map change rows
map-written change rows seen new same made = grind (arith, nat_tests, length-map, refill-whole)

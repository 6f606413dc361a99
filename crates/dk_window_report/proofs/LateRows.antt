-- Rows of which each is told up to a tick of its own.
use Rattle.std.proofs.Common.{ℕ, ◌≡◌, ◌+◌, ◌<◌, ◌∙◌, sym, ap, arith, List, [], ◌∷◌, length, get_or, take}
use Rattle.std.specs.Prelude.{min, sum_by}
use Rattle.std.proofs.lemmas.List.{take_more, get_or-map, length-map}
use Rattle.std.proofs.lemmas.List.Sums.{sum_by-cons, sum_by-append}
use Rattle.dk_window_report.specs.declared.row.Row.{Row}
use Rattle.dk_window_report.specs.declared.late.Late.{Late}
use Rattle.dk_window_report.specs.Late.{row_at, rows_at}
use Rattle.dk_window_report.specs.Report.{overruns_in}

pub within-rows : (tick : ℕ) (lates : List Late) (i : ℕ) → i < length lates → i < length (rows_at tick lates)
within-rows tick lates i there = let same = length-map lates (row_at tick) in omega (arith, same, there)

pub row-got : (tick : ℕ) (lates : List Late) (i : ℕ) (d : Late) (r : Row) → i < length lates → r ≡ row_at tick (get_or lates i d)
    → r ≡ get_or (rows_at tick lates) i (row_at tick d)
row-got tick lates i d r there is = is ∙ sym (get_or-map (row_at tick) lates i d (row_at tick d) there)

-- one row more
pub overruns-more : (rows : List Row) (i : ℕ) (d r : Row) (sum : ℕ) → i < length rows → r ≡ get_or rows i d → sum ≡ overruns_in (take i rows)
    → min (sum + r.counts.overran) 4294967295 ≡ overruns_in (take (i + 1) rows)
overruns-more rows i d r sum there is before =
    let f = λ (x : Row). x.counts.overran in
    let x = get_or rows i d in
    let all = ap (sum_by f) (take_more rows i d there) ∙ sum_by-append f (take i rows) (x ∷ []) in
    let one = sum_by-cons f x [] in
    let same : r.counts.overran ≡ x.counts.overran = ap f is in
    omega (arith, all, one, same, before)

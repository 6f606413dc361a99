-- The windows of the rows are those of the threads.
use Rattle.std.proofs.Common.{ℕ, ◌≡◌, ◌<◌, ◌∙◌, refl, sym, ap, arith, List, [], ◌∷◌, ◌++◌, length, length-append, map, flat_map, reverse, take}
use Rattle.std.specs.Prelude.{sum_by}
use Rattle.std.proofs.lemmas.List.{length-map, length-reverse, take_all}
use Rattle.std.proofs.lemmas.List.Sums.{sum_by-cons}
use Rattle.dk_trace.specs.declared.Entry.{Entry}
use Rattle.dk_ledger.specs.Heading.{Heading}
use Rattle.dk_ledger.specs.Readable.{IsReadable, Journal, text_of}
use Rattle.dk_window_report.specs.declared.row.Row.{Row}
use Rattle.dk_window_report.specs.Owners.{Owner, numbers_of, owners}
use Rattle.dk_window_report.specs.Report.{IsKeptIn}
use Rattle.dk_window_report.specs.Rows.{Kept, row_of, rows_of}
use Rattle.dk_overrun_spans.specs.Laws.{AreAllTold}
use Rattle.dk_overrun_spans.specs.Found.{overran_at, owner_of}
use Rattle.dk_overrun_spans.specs.Laws.{AreAllCounted}
use Rattle.dk_overrun_spans.specs.Overruns.{overrun_from, overruns, overruns_of, row_overruns}

module _ (told : AreAllTold) (h : Heading) (es : List Entry) (few : length es < 4294967295) where
  -- as many as the row says are all
  all-of : (o : Owner) → row_overruns es (row_of (reverse es) o) ≡ overruns_of es o
  all-of o =
      let same = length-reverse es in
      let count = told o (reverse es) (omega (arith, same, few)) in
      ap (map (overrun_from o es)) (take_all (numbers_of (reverse es) o).overran (overran_at o (reverse es)) (omega (arith, count)))

  each-of : (os : List Owner) → flat_map (row_overruns es) (map (row_of (reverse es)) os) ≡ flat_map (overruns_of es) os
  each-of [] = refl
  each-of (o ∷ os) = ap (λ t. t ++ flat_map (row_overruns es) (map (row_of (reverse es)) os)) (all-of o) ∙ ap (λ t. overruns_of es o ++ t) (each-of os)

  rows-told : flat_map (row_overruns es) (rows_of h (reverse es)) ≡ overruns h es
  rows-told = each-of (owners h (reverse es))

abbrev pub IsOneToOne : Type 0
IsOneToOne = (j k : Journal) → IsReadable j → IsReadable k → text_of j ≡ text_of k → j ≡ k

module _ (told : AreAllTold) (one : IsOneToOne) (bytes : List ℕ) (j : Journal) (readable : IsReadable j) (text : text_of j ≡ bytes) (h : Heading) (k : Kept) (kept : IsKeptIn bytes h k) where
  pub rows-are : flat_map (row_overruns j.entries) k.rows ≡ overruns j.heading j.entries
  rows-are =
      let (own, all, are) = kept in
      let same : record { heading = h; entries = own } ≡ j = one (record { heading = h; entries = own }) j all.readable readable (all.text ∙ sym text) in
      let short = readable.short in
      ap (flat_map (row_overruns j.entries)) (are.rows ∙ ap (λ (x : Journal). rows_of x.heading (reverse x.entries)) same)
      ∙ rows-told told j.heading j.entries (omega (arith, short))

  -- those that were found in the entries of the ledger that was read
  pub spans-are : (l : Journal) → IsReadable l → text_of l ≡ bytes → flat_map (row_overruns l.entries) k.rows ≡ overruns j.heading j.entries
  spans-are l read is = ap (λ (x : Journal). flat_map (row_overruns x.entries) k.rows) (one l j read readable (is ∙ sym text)) ∙ rows-are

-- where nothing was overrun there are none
pub none-overran : (es : List Entry) (rows : List Row) → sum_by (λ (r : Row). r.counts.overran) rows ≡ 0 → flat_map (row_overruns es) rows ≡ []
none-overran es [] is = refl
none-overran es (r ∷ rows) is =
    let parts = sum_by-cons (λ (x : Row). x.counts.overran) r rows in
    let own : r.counts.overran ≡ 0 = omega (arith, is, parts) in
    ap (λ n. map (overrun_from (owner_of r) es) (take n (overran_at (owner_of r) (reverse es))) ++ flat_map (row_overruns es) rows) own
    ∙ none-overran es rows (omega (arith, is, parts))

module _ (told : AreAllTold) (es : List Entry) (few : length es < 4294967295) where
  counted : (os : List Owner) → length (flat_map (overruns_of es) os) ≡ sum_by (λ (o : Owner). (numbers_of (reverse es) o).overran) os
  counted [] = refl
  counted (o ∷ os) =
      let same = length-reverse es in
      let own = told o (reverse es) (omega (arith, same, few)) in
      let mapped = length-map (overran_at o (reverse es)) (overrun_from o es) in
      let both = length-append (overruns_of es o) (flat_map (overruns_of es) os) in
      let rest = counted os in
      let sum = sum_by-cons (λ (x : Owner). (numbers_of (reverse es) x).overran) o os in
      omega (arith, own, mapped, both, rest, sum)

pub all-counted : AreAllTold → AreAllCounted
all-counted told h es few = counted told es few (owners h (reverse es))

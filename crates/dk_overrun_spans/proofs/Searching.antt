-- The windows that were found in the first entries of a ledger.
use Rattle.std.proofs.Common.{ℕ, ◌≡◌, ◌+◌, ◌<◌, ◌≤◌, inl, inr, ◌∙◌, sym, ap, arith, List, [], ◌∷◌, ◌++◌, length, reverse, take, drop, get_or}
use Rattle.std.specs.Prelude.{◌⊎◌}
use Rattle.std.proofs.lemmas.List.{length-reverse, length-take, length-take-le, reverse-append, take-append-drop, take_all, take_at, take_more}
use Rattle.dk_trace.specs.declared.Entry.{Entry}
use Rattle.dk_window_report.specs.declared.row.Row.{Row}
use Rattle.dk_window_report.specs.Owners.{Owner, numbers_of}
use Rattle.dk_window_report.specs.Rows.{RowsStart, RowsStep, new_row, row_of, stepped}
use Rattle.dk_overrun_spans.specs.Found.{grown, overran_at}
use Rattle.dk_overrun_spans.proofs.Growing.{found-first, fresh-early, none-early}

-- the entries before tick now, the newest first
abbrev before : List Entry → ℕ → List Entry
before es now = reverse (take now es)

-- the row of the thread, and the windows that were found, before tick now
pub record IsSearched (o : Owner) (es : List Entry) (now : ℕ) (own : Row) (ticks : List ℕ) : Type 0 where
  pub row : own ≡ row_of (reverse (take now es)) o
  pub found : ticks ≡ overran_at o (reverse (take now es))

early : (es : List Entry) (now : ℕ) → length (before es now) ≤ now
early es now =
    let same = length-reverse (take now es) in
    let most = length-take now es in
    omega (arith, same, most)

short : (es : List Entry) (now : ℕ) → length (before es now) ≤ length es
short es now =
    let same = length-reverse (take now es) in
    let most = length-take now es in
    omega (arith, same, most)

module _ (start : RowsStart) (step : RowsStep) (o : Owner) (es : List Entry) (few : length es < 4294967295) where
  pub searched-start : (own : Row) → own ≡ new_row o → IsSearched o es o.since own []
  searched-start own fresh =
      let low = early es o.since in
      let less = short es o.since in
      record {
        row = fresh ∙ sym (fresh-early start step o (before es o.since) low (omega (arith, less, few)));
        found = sym (none-early start step o (before es o.since) low (omega (arith, less, few)));
      }

  pub searched-more : (now : ℕ) (own next : Row) (ticks more : List ℕ) (d e : Entry) → IsSearched o es now own ticks → now < length es → e ≡ get_or es now d
      → next ≡ stepped now e own → more ≡ ticks ++ grown o.period now own.counts next.counts → IsSearched o es (now + 1) next more
  searched-more now own next ticks more d e is there got stepped-so more-so =
      let past = before es now in
      let x = get_or es now d in
      let all : before es (now + 1) ≡ x ∷ past = ap reverse (take_more es now d there) ∙ reverse-append (take now es) (x ∷ []) in
      let count : length past ≡ now = length-reverse (take now es) ∙ length-take-le now es (omega (arith, there)) in
      let row-so : next ≡ row_of (x ∷ past) o =
      stepped-so ∙ ap (λ (y : Entry). stepped now y own) got ∙ ap (stepped now x) is.row ∙ ap (λ n. stepped n x (row_of past o)) (sym count)
      ∙ sym (step o x past (omega (arith, count, there, few))) in
      record {
        row = row-so ∙ ap (λ (p : List Entry). row_of p o) (sym all);
        found =
            more-so ∙ ap (λ ts. ts ++ grown o.period now own.counts next.counts) is.found
            ∙ ap (λ (r : Row). overran_at o past ++ grown o.period now r.counts next.counts) is.row
            ∙ ap (λ (r : Row). overran_at o past ++ grown o.period now (numbers_of past o) r.counts) row-so
            ∙ ap (λ n. overran_at o past ++ grown o.period n (numbers_of past o) (numbers_of (x ∷ past) o)) (sym count)
            ∙ ap (overran_at o) (sym all);
      }

  pub searched-end : (now n : ℕ) (own : Row) (ticks : List ℕ) → IsSearched o es now own ticks → length ticks ≤ n → (n ≤ length ticks) ⊎ (length es ≤ now)
      → ticks ≡ take n (overran_at o (reverse es))
  searched-end now n own ticks is most (inl enough) =
      let (more, all) = found-first o (reverse (drop now es)) (before es now) in
      let parts : reverse es ≡ reverse (drop now es) ++ before es now = ap reverse (sym (take-append-drop now es)) ∙ reverse-append (take now es) (drop now es) in
      let whole : overran_at o (reverse es) ≡ ticks ++ more = ap (overran_at o) parts ∙ all ∙ ap (λ ts. ts ++ more) (sym is.found) in
      sym (ap (take n) whole ∙ take_at ticks more n (omega (arith, most, enough)))
  searched-end now n own ticks is most (inr over) =
      let whole : ticks ≡ overran_at o (reverse es) = is.found ∙ ap (λ (xs : List Entry). overran_at o (reverse xs)) (take_all now es over) in
      sym (take_all n ticks most) ∙ ap (take n) whole

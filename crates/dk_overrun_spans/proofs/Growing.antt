-- How the windows that a thread overran are found entry by entry.
use Rattle.std.proofs.Common.{ℕ, suc, ◌≡◌, ◌+◌, ◌-◌, ◌%◌, ◌<◌, ◌≤◌, ◌∙◌, refl, sym, ap, arith, Bool, true, false, List, [], ◌∷◌, ◌++◌, length, length-append, append_assoc, append-nil}
use Rattle.std.specs.Prelude.{◌==◌, nat_lt, if◌then◌else◌}
use Rattle.std.proofs.lemmas.Bool.{lt-ltb, le-ltb}
use Rattle.dk_trace.specs.declared.Entry.{Entry}
use Rattle.dk_window_report.specs.declared.row.WindowCounts.{WindowCounts}
use Rattle.dk_window_report.specs.declared.row.Row.{Row}
use Rattle.dk_window_report.specs.Windows.{is_overrun}
use Rattle.dk_window_report.specs.Owners.{Owner, numbers_of}
use Rattle.dk_window_report.specs.Rows.{RowsStart, RowsStep, did_with, ended, filled, new_row, raised_if, row_of, stepped}
use Rattle.dk_overrun_spans.specs.Found.{grown, overran_at}

-- the number of overruns is n, or one more
abbrev IsRaised : ℕ → Row → Type 0
IsRaised n r = (b : Bool) × (r.counts.overran ≡ raised_if b n)

either : (b : Bool) (n : ℕ) (r s : Row) → IsRaised n r → IsRaised n s → IsRaised n (if b then r else s)
either true n r s one other = one
either false n r s one other = other

raised-by : (now : ℕ) (e : Entry) (r : Row) → IsRaised r.counts.overran (stepped now e r)
raised-by now e r =
    let n = r.counts.overran in
    let ticks = (now - r.since) % r.period in
    let d = did_with r.gone r.thread e ticks r.did in
    either (nat_lt now r.since) n r (filled ticks r d) (false, refl)
    (either (ticks + 1 == r.period) n (ended r d) (record r { did = d }) (is_overrun d, refl) (false, refl))

grown-as : (b : Bool) (period now n : ℕ) (before after : WindowCounts) → before.overran ≡ n → after.overran ≡ raised_if b n → n < 4294967295
    → n + length (grown period now before after) ≡ raised_if b n
grown-as true period now n before after old new few =
    let less = lt-ltb before.overran after.overran (omega (arith, old, new, few)) in
    ap (λ t. n + length (if t then (suc now - period) ∷ [] else [])) less ∙ (omega (arith, few))
grown-as false period now n before after old new few =
    let same = le-ltb before.overran after.overran (omega (arith, old, new)) in
    ap (λ t. n + length (if t then (suc now - period) ∷ [] else [])) same ∙ (omega arith)

at-most-one : (b : Bool) (n : ℕ) → length (if b then n ∷ [] else []) ≤ 1
at-most-one true n = omega arith
at-most-one false n = omega arith

pub grown-short : (period now : ℕ) (before after : WindowCounts) → length (grown period now before after) ≤ 1
grown-short period now before after = at-most-one (nat_lt before.overran after.overran) (suc now - period)

few-found : (o : Owner) (past : List Entry) → length (overran_at o past) ≤ length past
few-found o [] = omega arith
few-found o (e ∷ past) =
    let rest = few-found o past in
    let old = numbers_of past o in
    let new = numbers_of (e ∷ past) o in
    let one = at-most-one (nat_lt old.overran new.overran) (suc (length past) - o.period) in
    let both = length-append (overran_at o past) (grown o.period (length past) old new) in
    omega (arith, rest, one, both)

module _ (start : RowsStart) (step : RowsStep) where
  -- as many are found as are counted
  pub all-told : (o : Owner) (past : List Entry) → length past < 4294967295 → length (overran_at o past) ≡ (numbers_of past o).overran
  all-told o [] few = sym (ap (λ (r : Row). r.counts.overran) (start o))
  all-told o (e ∷ past) few =
      let before = all-told o past (omega (arith, few)) in
      let most = few-found o past in
      let old = numbers_of past o in
      let new = numbers_of (e ∷ past) o in
      let (b, more) = raised-by (length past) e (row_of past o) in
      let next : new.overran ≡ raised_if b old.overran = ap (λ (r : Row). r.counts.overran) (step o e past (omega (arith, few))) ∙ more in
      let one = grown-as b o.period (length past) old.overran old new refl next (omega (arith, before, most, few)) in
      length-append (overran_at o past) (grown o.period (length past) old new)
      ∙ ap (λ n. n + length (grown o.period (length past) old new)) before ∙ one ∙ sym next

  -- before its first window a thread has done nothing
  pub fresh-early : (o : Owner) (past : List Entry) → length past ≤ o.since → length past < 4294967295 → row_of past o ≡ new_row o
  fresh-early o [] early few = start o
  fresh-early o (e ∷ past) early few =
      step o e past (omega (arith, few))
      ∙ ap (λ b. if b then row_of past o else filled ((length past - o.since) % o.period) (row_of past o) (did_with (row_of past o).gone o.id e ((length past - o.since) % o.period) (row_of past o).did))
      (lt-ltb (length past) o.since (omega (arith, early)))
      ∙ fresh-early o past (omega (arith, early)) (omega (arith, few))

  pub none-early : (o : Owner) (past : List Entry) → length past ≤ o.since → length past < 4294967295 → overran_at o past ≡ []
  none-early o [] early few = refl
  none-early o (e ∷ past) early few =
      let old = ap (λ (r : Row). r.counts) (fresh-early o past (omega (arith, early)) (omega (arith, few))) in
      let new = ap (λ (r : Row). r.counts) (fresh-early o (e ∷ past) early few) in
      ap (λ ts. ts ++ grown o.period (length past) (numbers_of past o) (numbers_of (e ∷ past) o)) (none-early o past (omega (arith, early)) (omega (arith, few)))
      ∙ ap (λ (c : WindowCounts). grown o.period (length past) c (numbers_of (e ∷ past) o)) old
      ∙ ap (λ (c : WindowCounts). grown o.period (length past) (new_row o).counts c) new

-- what was found so far stays
abbrev pub IsFront : List ℕ → List ℕ → Type 0
IsFront front all = (more : List ℕ) × (all ≡ front ++ more)

pub found-first : (o : Owner) (later past : List Entry) → IsFront (overran_at o past) (overran_at o (later ++ past))
found-first o [] past = ([], sym (append-nil (overran_at o past)))
found-first o (e ∷ later) past =
    let (more, all) = found-first o later past in
    let new = grown o.period (length (later ++ past)) (numbers_of (later ++ past) o) (numbers_of (e ∷ (later ++ past)) o) in
    (more ++ new, ap (λ ts. ts ++ new) all ∙ append_assoc (overran_at o past) more new)

-- The last tick of the budget in a window that was overrun is one that it paid for.
use Rattle.std.proofs.Common.{ℕ, zero, suc, ◌≡◌, ◌∙◌, ◌+◌, ◌-◌, ◌%◌, ◌<◌, ◌≤◌, ◌++◌, [], ◌∷◌, List, All, length, flat_map, take, drop, reverse, refl, sym, ap, subst, arith, cond}
use Rattle.std.specs.Prelude.{Bool, true, false, not, ◌==◌, ◌||◌, nat_lt, count_by, slice_get, Some, if◌then◌else◌}
use Rattle.std.proofs.Math.Nat.{mod-le}
use Rattle.std.proofs.lemmas.Bool.{and_parts, eqb-true, ltb-true}
use Rattle.std.proofs.lemmas.List.{append_assoc, length-drop, length-reverse, length-take-le, reverse-append, reverse-reverse, take-append-drop, take-take}
use Rattle.std.proofs.lemmas.List.Elements.{All-append, All-cons, All-map, All-nil}
use Rattle.std.proofs.lemmas.List.Sums.{sum_by-cons}
use Rattle.dk_trace.specs.declared.ThreadId.{ThreadId}
use Rattle.dk_trace.specs.declared.Entry.{Entry}
use Rattle.dk_trace.specs.Entries.{is_budget_of}
use Rattle.dk_window_report.specs.declared.row.Did.{Did}
use Rattle.dk_window_report.specs.declared.row.Row.{Row}
use Rattle.dk_window_report.specs.Windows.{did_in, done_in, is_overrun, once, present_window}
use Rattle.dk_window_report.specs.Owners.{Owner, numbers_of, own_entries, owners}
use Rattle.dk_window_report.specs.Rows.{RowsStep, did_with, ended, raised_if, row_of, stepped}
use Rattle.dk_overrun_spans.specs.Found.{grown, overran_at}
use Rattle.dk_overrun_spans.specs.Laws.{AreLastPaid, IsLastPaid}
use Rattle.dk_overrun_spans.specs.Overruns.{overrun_from, overruns_of}
use Rattle.dk_overrun_spans.proofs.LastTicks.{paid}

-- ---- a piece of a list

module _ {X : Type 0} where
  front : (B C : List X) → take (length B) (B ++ C) ≡ B
  front [] [] = refl
  front [] (x ∷ C) = refl
  front (x ∷ B) C = ap (λ t. x ∷ t) (front B C)

  cut-out : (A B C : List X) → take (length B) (drop (length A) ((A ++ B) ++ C)) ≡ B
  cut-out [] B C = front B C
  cut-out (x ∷ A) B C = cut-out A B C

  got-front : (B C : List X) (k : ℕ) → k < length B → slice_get (B ++ C) k ≡ slice_get B k
  got-front [] C k less = absurd (let no : suc k ≤ 0 = less in omega (arith, no))
  got-front (x ∷ B) C zero less = refl
  got-front (x ∷ B) C (suc k) less = got-front B C k (omega (arith, less))

  got-out : (A B C : List X) (k : ℕ) → k < length B → slice_get ((A ++ B) ++ C) (length A + k) ≡ slice_get B k
  got-out [] B C k less = ap (slice_get (B ++ C)) (omega arith) ∙ got-front B C k less
  got-out (x ∷ A) B C k less = let next : suc (length A) + k ≡ suc (length A + k) = omega arith in ap (slice_get (x ∷ ((A ++ B) ++ C))) next ∙ got-out A B C k less

  got-back : (A : List X) (x : X) → slice_get (A ++ x ∷ []) (length A) ≡ Some x
  got-back [] x = refl
  got-back (y ∷ A) x = got-back A x

-- ---- where the last tick of the budget stands in a window, the newest entry first

module _ (x : ThreadId) where
  done-by : (b : Bool) (w : List Entry) (n : ℕ) → (0 < n → 0 < done_in x w) → 0 < cond b 1 0 + n → 0 < (if b then suc (length w) else done_in x w)
  done-by true w n rest some = omega arith
  done-by false w n rest some = rest (omega (arith, some))

  -- one that paid for a tick has a last one
  done-some : (w : List Entry) → 0 < count_by (is_budget_of x) w → 0 < done_in x w
  done-some [] some = some
  done-some (e ∷ w) some =
      let sum = sum_by-cons (λ y. cond (is_budget_of x y) 1 0) e w in
      done-by (is_budget_of x e) w (count_by (is_budget_of x) w) (done-some w) (omega (arith, sum, some))

  abbrev EndsPaid : List Entry → ℕ → Type 0
  EndsPaid w n = 0 < n → (n ≤ length w) × (paid x (slice_get (reverse w) (n - 1)) ≡ true)

  end-by : (e : Entry) (w : List Entry) (b : Bool) → is_budget_of x e ≡ b → EndsPaid w (done_in x w) → EndsPaid (e ∷ w) (if b then suc (length w) else done_in x w)
  end-by e w true is rest = λ some.
      let same = length-reverse w in
      let last : suc (length w) - 1 ≡ length w = omega arith in (
        omega arith,
        ap (λ n. paid x (slice_get (reverse (e ∷ w)) n)) last ∙ ap (λ es. paid x (slice_get es (length w))) (reverse-append (e ∷ []) w)
            ∙ ap (λ n. paid x (slice_get (reverse w ++ e ∷ []) n)) (sym same) ∙ ap (paid x) (got-back (reverse w) e) ∙ is,
      )
  end-by e w false is rest = λ some.
      let before = rest some in
      let same = length-reverse w in (
        omega (arith, before.0),
        ap (λ es. paid x (slice_get es (done_in x w - 1))) (reverse-append (e ∷ []) w)
            ∙ ap (paid x) (got-front (reverse w) (e ∷ []) (done_in x w - 1) (omega (arith, same, some, before.0))) ∙ before.1,
      )

  ends-paid : (w : List Entry) → EndsPaid w (done_in x w)
  ends-paid [] = λ some. absurd (let no : 1 ≤ 0 = some in omega (arith, no))
  ends-paid (e ∷ w) = end-by e w (is_budget_of x e) refl (ends-paid w)

-- a window of so many ticks that ended with the newest entry of a past, in all the entries
module _ (o : Owner) (later past : List Entry) (few : o.period ≤ length past) (some : 0 < done_in o.id (take o.period past)) where
  abbrev all : List Entry
  all = reverse (later ++ past)

  abbrev window : List Entry
  window = reverse (take o.period past)

  abbrev before : List Entry
  before = reverse (drop o.period past)

  parts : all ≡ (before ++ window) ++ reverse later
  parts =
      reverse-append later past
      ∙ ap (λ t. reverse t ++ reverse later) (sym (take-append-drop o.period past))
      ∙ ap (λ t. t ++ reverse later) (reverse-append (take o.period past) (drop o.period past))

  length-before : length before ≡ length past - o.period
  length-before = length-reverse (drop o.period past) ∙ length-drop o.period past

  length-window : length window ≡ o.period
  length-window = length-reverse (take o.period past) ∙ length-take-le o.period past few

  same-window : reverse (take o.period (drop (length past - o.period) all)) ≡ take o.period past
  same-window =
      ap (λ n. reverse (take n (drop (length past - o.period) all))) (sym length-window)
      ∙ ap (λ n. reverse (take (length window) (drop n all))) (sym length-before)
      ∙ ap (λ t. reverse (take (length window) (drop (length before) t))) parts
      ∙ ap reverse (cut-out before window (reverse later)) ∙ reverse-reverse (take o.period past)

  window-paid : IsLastPaid all (overrun_from o all (length past - o.period))
  window-paid =
      let s = length past - o.period in
      let d = done_in o.id (take o.period past) in
      let (within, is) = ends-paid o.id (take o.period past) some in
      let long = length-take-le o.period past few in
      let same = length-window in
      let place : slice_get all (s + (d - 1)) ≡ slice_get window (d - 1) =
      ap (λ t. slice_get t (s + (d - 1))) parts ∙ ap (λ n. slice_get ((before ++ window) ++ reverse later) (n + (d - 1))) (sym length-before)
      ∙ got-out before window (reverse later) (d - 1) (omega (arith, same, some, within, long)) in
      subst (λ n. IsLastPaid all (record { thread = o.id; period = o.period; start = s; last = s + (n - 1) })) (sym (ap (done_in o.id) same-window))
      (omega arith, omega (arith, some, within, long), ap (paid o.id) place ∙ is)

-- ---- which windows are told

never : (n : ℕ) → nat_lt n n ≡ true → ⊥
never n less = let no = ltb-true n n less in omega (arith, no)

over : (b : Bool) (n : ℕ) → nat_lt n (raised_if b n) ≡ true → b ≡ true
over true n more = refl
over false n more = absurd (never n more)

grew-by : (early last : Bool) (r : Row) (d : Did)
    → nat_lt r.counts.overran (if early then r else (if last then ended r d else record r { did = d })).counts.overran ≡ true
    → (early ≡ false) × (last ≡ true) × (is_overrun d ≡ true)
grew-by true last r d more = absurd (never r.counts.overran more)
grew-by false false r d more = absurd (never r.counts.overran more)
grew-by false true r d more = (refl, refl, over (is_overrun d) r.counts.overran more)

once-used : (gone : Bool) (d : Did) → (once gone d).used ≡ d.used
once-used true d = refl
once-used false d = refl

raised-some : (b : Bool) (n : ℕ) → 0 < raised_if b n → 0 < cond b 1 0 + n
raised-some true n some = omega arith
raised-some false n some = omega (arith, some)

module _ (o : Owner) (e : Entry) (past : List Entry) where
  abbrev ticks : ℕ
  ticks = (length past - o.since) % o.period

  within : ticks ≤ length past - o.since
  within = mod-le (length past - o.since) o.period

  -- the entries of the window before this one
  present : present_window o.period (own_entries o.since past) ≡ take ticks past
  present =
      let long = length-take-le (length past - o.since) past (omega arith) in
      ap (λ n. take (n % o.period) (own_entries o.since past)) long ∙ take-take ticks (length past - o.since) past within

  -- where the number of overruns grows, a window ends, of which the thread had a tick on its budget
  grew : nat_lt (numbers_of past o).overran (stepped (length past) e (row_of past o)).counts.overran ≡ true
      → (o.period ≤ suc (length past)) × (0 < done_in o.id (take o.period (e ∷ past)))
  grew more =
      let r = row_of past o in
      let d = did_with r.gone o.id e ticks r.did in
      let (begun, last, is) = grew-by (nat_lt (length past) o.since) (ticks + 1 == o.period) r d more in
      let all_of = eqb-true (ticks + 1) o.period last in
      let early = within in
      let used = ltb-true 0 d.used (and_parts (nat_lt 0 d.used) (not (d.waited || d.stopped)) is).0 in
      let own = once-used r.gone (did_in o.id (present_window o.period (own_entries o.since past))) in
      let counted = raised-some (is_budget_of o.id e) r.did.used used in
      let before = ap (λ w. count_by (is_budget_of o.id) w) present in
      let done = done-some o.id (e ∷ take ticks past)
      (let sum = sum_by-cons (λ y. cond (is_budget_of o.id y) 1 0) e (take ticks past) in omega (arith, sum, counted, own, before)) in
      let long : suc ticks ≡ o.period = omega (arith, all_of) in
      (omega (arith, early, all_of), subst (λ n. 0 < done_in o.id (take n (e ∷ past))) long done)

module _ (step : RowsStep) (o : Owner) where
  one-told : (later past : List Entry) (e : Entry) (b : Bool) → length past < 4294967295
      → (b ≡ true → (o.period ≤ suc (length past)) × (0 < done_in o.id (take o.period (e ∷ past))))
      → All (λ s. IsLastPaid (reverse (later ++ e ∷ past)) (overrun_from o (reverse (later ++ e ∷ past)) s)) (if b then (suc (length past) - o.period) ∷ [] else [])
  one-told later past e true few grows =
      let (whole, some) = grows refl in
      All-cons (λ s. IsLastPaid (reverse (later ++ e ∷ past)) (overrun_from o (reverse (later ++ e ∷ past)) s)) (suc (length past) - o.period) []
      (window-paid o later (e ∷ past) whole some) (All-nil (λ s. IsLastPaid (reverse (later ++ e ∷ past)) (overrun_from o (reverse (later ++ e ∷ past)) s)))
  one-told later past e false few grows = All-nil (λ s. IsLastPaid (reverse (later ++ e ∷ past)) (overrun_from o (reverse (later ++ e ∷ past)) s))

  each-paid : (es later past : List Entry) → es ≡ reverse (later ++ past) → length past < 4294967295 → All (λ s. IsLastPaid es (overrun_from o es s)) (overran_at o past)
  each-paid es later [] is few = All-nil (λ s. IsLastPaid es (overrun_from o es s))
  each-paid es later (e ∷ past) is few =
      let old = numbers_of past o in
      let new = numbers_of (e ∷ past) o in
      let next = ap (λ (r : Row). r.counts.overran) (step o e past (omega (arith, few))) in
      let one = one-told later past e (nat_lt old.overran new.overran) (omega (arith, few)) (λ more. grew o e past (ap (nat_lt old.overran) (sym next) ∙ more)) in
      All-append (λ s. IsLastPaid es (overrun_from o es s)) (overran_at o past) (grown o.period (length past) old new)
      (each-paid es (later ++ e ∷ []) past (is ∙ ap reverse (sym (append_assoc later (e ∷ []) past))) (omega (arith, few)))
      (subst (λ t. All (λ s. IsLastPaid t (overrun_from o t s)) (grown o.period (length past) old new)) (sym is) one)

module _ (step : RowsStep) (es : List Entry) (few : length es < 4294967295) where
  all-paid : (os : List Owner) → All (IsLastPaid es) (flat_map (overruns_of es) os)
  all-paid [] = All-nil (IsLastPaid es)
  all-paid (o ∷ os) =
      let same = length-reverse es in
      All-append (IsLastPaid es) (overruns_of es o) (flat_map (overruns_of es) os)
      (All-map (IsLastPaid es) (overrun_from o es) (overran_at o (reverse es))
      (each-paid step o es [] (reverse es) (sym (reverse-reverse es)) (omega (arith, same, few))))
      (all-paid os)

pub last-paid : RowsStep → AreLastPaid
last-paid step h es few = all-paid step es few (owners h (reverse es))

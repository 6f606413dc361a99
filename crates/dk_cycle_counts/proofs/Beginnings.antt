-- What one more entry makes of when a main begins.
use Rattle.std.proofs.Common.{ℕ, zero, suc, ◌≡◌, ◌≢◌, ◌+◌, ◌-◌, ◌%◌, ◌<◌, ◌≤◌, inl, inr, ◌∙◌, refl, sym, ap, subst, zero-add, arith, Bool, true, false, cond, List, [], ◌∷◌, ◌++◌, length, map, take}
use Rattle.std.specs.Prelude.{◌==◌, ◌&&◌, min, max, if◌then◌else◌, count_by, replicate}
use Rattle.std.proofs.Math.Nat.{mod-zero, mod-le}
use Rattle.std.proofs.lemmas.Bool.{ne_eqb}
use Rattle.std.proofs.lemmas.List.{length-append, length-replicate, length-take-le, map-append, take_all}
use Rattle.dk_config.specs.Sums.{greatest}
use Rattle.dk_trace.specs.declared.ThreadId.{ThreadId}
use Rattle.dk_trace.specs.declared.Label.{Label}
use Rattle.dk_trace.specs.declared.Entry.{Entry}
use Rattle.dk_trace.specs.Entries.{is_budget_of, quiet}
use Rattle.dk_trace.proofs.Windows.{count_by-cons, mod-next}
use Rattle.dk_window_report.specs.declared.row.Did.{Did}
use Rattle.dk_window_report.specs.declared.row.Row.{Row}
use Rattle.dk_window_report.specs.Owners.{Owner, own_entries}
use Rattle.dk_window_report.specs.Passing.{RowsGoBy, gone_by}
use Rattle.dk_window_report.specs.Rows.{raised, row_of}
use Rattle.dk_window_report.specs.Windows.{did_in, ended_windows, once, present_window}
use Rattle.dk_window_report.proofs.QuietTicks.{unpaid}
use Rattle.dk_window_report.proofs.Stepping.{passed-thread}
use Rattle.dk_window_report.proofs.Steps.{ends-ended, goes-on-ended, goes-on-present}
use Rattle.dk_cycle_counts.specs.declared.begins.BeginTicks.{BeginTicks}
use Rattle.dk_cycle_counts.specs.Begins.{begins_gone_by, begins_of, begins_with, begun_at, begun_in, begun_windows, earlier, earliest, earliest_from}

-- ---- one window more

earliest_from-more : (m : ℕ) (ns : List ℕ) (n : ℕ) → earliest_from m (ns ++ n ∷ []) ≡ earlier (earliest_from m ns) n
earliest_from-more m [] n = refl
earliest_from-more m (k ∷ ns) n = earliest_from-more (earlier m k) ns n

greatest-more : (ns : List ℕ) (n : ℕ) → greatest (ns ++ n ∷ []) ≡ max (greatest ns) n
greatest-more [] n = omega arith
greatest-more (k ∷ ns) n = let rest = greatest-more ns n in omega (arith, rest)

abbrev over : List ℕ → BeginTicks
over ns = record { first = earliest ns; last = greatest ns }

over-more : (ns : List ℕ) (n : ℕ) → over (ns ++ n ∷ []) ≡ begun_at n (over ns)
over-more ns n =
    ap (λ k. record { first = k; last = greatest (ns ++ n ∷ []) }) (earliest_from-more 0 ns n)
    ∙ ap (λ k. record { first = earlier (earliest ns) n; last = k }) (greatest-more ns n)

-- with a window in which it doesn't begin
none-more : (b : BeginTicks) → begun_at 0 b ≡ b
none-more b = let same : max b.last 0 ≡ b.last = omega arith in ap (λ k. record { first = b.first; last = k }) same

is-some : (k : ℕ) → (suc k == 0) ≡ false
is-some k = ne_eqb (suc k) 0 (λ is. omega (arith, is))

-- with one entry more in the present window, in which it began at tick k
grown : (b : BeginTicks) (k n : ℕ) (paid : Bool)
    → begun_at (if k == 0 then (if paid then n else 0) else k) b ≡ (if paid && (k == 0) then begun_at n (begun_at k b) else begun_at k b)
grown b zero n true = ap (begun_at n) (sym (none-more b))
grown b zero n false = refl
grown b (suc k) n true =
    let some = is-some k in
    ap (λ t. begun_at (if t then n else suc k) b) some ∙ sym (ap (λ t. if t then begun_at n (begun_at (suc k) b) else begun_at (suc k) b) some)
grown b (suc k) n false = ap (λ t. begun_at (if t then 0 else suc k) b) (is-some k)

-- it has begun where it has used a tick
begun-test : (b : Bool) (n k m : ℕ) → (n == 0) ≡ (k == 0) → (cond b 1 0 + n == 0) ≡ ((if k == 0 then (if b then suc m else 0) else k) == 0)
begun-test true n zero m same = ne_eqb (1 + n) 0 (λ is. omega (arith, is)) ∙ sym (is-some m)
begun-test true n (suc k) m same =
    ne_eqb (1 + n) 0 (λ is. omega (arith, is)) ∙ sym (ap (λ t. (if t then suc m else suc k) == 0) (is-some k) ∙ is-some k)
begun-test false n zero m same = ap (λ j. j == 0) (zero-add n) ∙ same
begun-test false n (suc k) m same = ap (λ j. j == 0) (zero-add n) ∙ same ∙ sym (ap (λ t. (if t then 0 else suc k) == 0) (is-some k))

begun-used : (x : ThreadId) (window : List Entry) → (count_by (is_budget_of x) window == 0) ≡ (begun_in x window == 0)
begun-used x [] = refl
begun-used x (e ∷ window) =
    ap (λ n. n == 0) (count_by-cons (is_budget_of x) e window)
    ∙ begun-test (is_budget_of x e) (count_by (is_budget_of x) window) (begun_in x window) (length window) (begun-used x window)

once-used : (g : Bool) (d : Did) → (once g d).used ≡ d.used
once-used true d = refl
once-used false d = refl

own-all : (es : List Entry) → take (length es - 0) es ≡ es
own-all es = let n : length es ≤ length es - 0 = omega arith in take_all (length es - 0) es n

module _ (x : ThreadId) (P : ℕ) (e : Entry) (es : List Entry) (few : length es < 4294967295) where
  abbrev ws : List ℕ
  ws = map (begun_in x) (ended_windows P es)

  abbrev k : ℕ
  k = begun_in x (present_window P es)

  abbrev t : ℕ
  t = length es % P

  abbrev step : BeginTicks → BeginTicks
  step b = if is_budget_of x e && (k == 0) then begun_at (raised t) b else b

  before : begins_of x P es ≡ begun_at k (over ws)
  before = ap over (map-append (begun_in x) (ended_windows P es) (present_window P es ∷ [])) ∙ over-more ws k

  -- the tick in the window
  at : suc (length (present_window P es)) ≡ raised t
  at =
      let most = mod-le (length es) P in
      let size : length (present_window P es) ≡ t = length-take-le t es most in
      omega (arith, size, most, few)

  new-is : begun_at (begun_in x (e ∷ present_window P es)) (over ws) ≡ step (begins_of x P es)
  new-is =
      ap (λ n. begun_at (if k == 0 then (if is_budget_of x e then n else 0) else k) (over ws)) at
      ∙ grown (over ws) k (raised t) (is_budget_of x e) ∙ ap step (sym before)

  goes-on : suc (length es) % P ≡ suc t → begins_of x P (e ∷ es) ≡ step (begins_of x P es)
  goes-on within =
      ap (λ vs. over (map (begun_in x) (vs ++ present_window P (e ∷ es) ∷ []))) (goes-on-ended P e es within)
      ∙ ap (λ v. over (map (begun_in x) (ended_windows P es ++ v ∷ []))) (goes-on-present P e es within)
      ∙ ap over (map-append (begun_in x) (ended_windows P es) ((e ∷ present_window P es) ∷ []))
      ∙ over-more ws (begun_in x (e ∷ present_window P es)) ∙ new-is

  ends : suc (length es) % P ≡ 0 → suc t ≡ P → begins_of x P (e ∷ es) ≡ step (begins_of x P es)
  ends none full =
      let now = begun_in x (e ∷ present_window P es) in
      ap (λ vs. over (map (begun_in x) (vs ++ present_window P (e ∷ es) ∷ []))) (ends-ended P e es full)
      ∙ ap (λ n. over (map (begun_in x) ((ended_windows P es ++ (e ∷ present_window P es) ∷ []) ++ take n (e ∷ es) ∷ []))) none
      ∙ ap over (map-append (begun_in x) (ended_windows P es ++ (e ∷ present_window P es) ∷ []) ([] ∷ []))
      ∙ over-more (map (begun_in x) (ended_windows P es ++ (e ∷ present_window P es) ∷ [])) 0
      ∙ none-more (over (map (begun_in x) (ended_windows P es ++ (e ∷ present_window P es) ∷ [])))
      ∙ ap over (map-append (begun_in x) (ended_windows P es) ((e ∷ present_window P es) ∷ []))
      ∙ over-more ws now ∙ new-is

  at-window : (q : ℕ) → q ≡ P → begins_of x P (e ∷ es) ≡ step (begins_of x P es)
  at-window zero same =
      goes-on (subst (λ q. suc (length es) % q ≡ suc (length es % q)) same (mod-zero (suc (length es)) ∙ ap suc (sym (mod-zero (length es)))))
  at-window (suc q) same =
      elim (mod-next (length es) P (omega (arith, same))) [
        | inl parts ↦ ends parts.0 parts.1
        | inr within ↦ goes-on within
      ]

-- with the entry of one more tick
pub begins-next : (p P : ℕ) (e : Entry) (es : List Entry) → length es < 4294967295
    → begins_of (record { process = p; serial = 0 }) P (e ∷ es)
    ≡ begins_with (length es) e (row_of es (record { id = record { process = p; serial = 0 }; period = P; since = 0 })) (begins_of (record { process = p; serial = 0 }) P es)
begins-next p P e es few =
    let x : ThreadId = record { process = p; serial = 0 } in
    let o : Owner = record { id = x; period = P; since = 0 } in
    let b = begins_of x P es in
    let used : ((row_of es o).did.used == 0) ≡ (begun_in x (present_window P es) == 0) =
    ap (λ n. n == 0) (once-used (row_of es o).gone (did_in x (present_window P (own_entries 0 es))))
    ∙ ap (λ own. count_by (is_budget_of x) (present_window P own) == 0) (own-all es) ∙ begun-used x (present_window P es) in
    at-window x P e es few P refl
    ∙ sym (ap (λ t. if is_budget_of x e && t then begun_at (raised (length es % P)) b else b) used)

-- with so many that have one label and no event
pub begins-gone : (p P : ℕ) (label : Label) (n : ℕ) (es : List Entry) → RowsGoBy → length es + n < 4294967295
    → begins_of (record { process = p; serial = 0 }) P (replicate n (quiet label) ++ es)
    ≡ begins_gone_by (length es) label n (row_of es (record { id = record { process = p; serial = 0 }; period = P; since = 0 })) (begins_of (record { process = p; serial = 0 }) P es)
begins-gone p P label zero es go few = refl
begins-gone p P label (suc n) es go few =
    let x : ThreadId = record { process = p; serial = 0 } in
    let o : Owner = record { id = x; period = P; since = 0 } in
    let more = replicate n (quiet label) ++ es in
    let size : length more ≡ length es + n = length-append (replicate n (quiet label)) es ∙ ap (λ k. k + length es) (length-replicate n (quiet label)) ∙ (omega arith) in
    begins-next p P (quiet label) more (omega (arith, size, few))
    ∙ ap (λ b. begins_with (length more) (quiet label) (row_of more o) b) (begins-gone p P label n es go (omega (arith, few)))
    ∙ ap (λ r. begins_with (length more) (quiet label) r (begins_gone_by (length es) label n (row_of es o) (begins_of x P es))) (go o label n es (omega (arith, few)))
    ∙ ap (λ k. begins_with k (quiet label) (gone_by (quiet label) (length es) n (row_of es o)) (begins_gone_by (length es) label n (row_of es o) (begins_of x P es))) size

-- with so many for which it doesn't pay
pub unpaid-begins : (label : Label) (ticks n : ℕ) (r : Row) (b : BeginTicks) → is_budget_of r.thread (quiet label) ≡ false → begins_gone_by ticks label n r b ≡ b
unpaid-begins label ticks zero r b paid = refl
unpaid-begins label ticks (suc n) r b paid =
    let s = gone_by (quiet label) ticks n r in
    let old = begins_gone_by ticks label n r b in
    let thread : s.thread ≡ r.thread = ap (λ (x : Row). x.thread) (unpaid label ticks n r paid) ∙ passed-thread ticks n r in
    ap (λ t. if t && (s.did.used == 0) then begun_at (raised ((ticks + n) % s.period)) old else old) (ap (λ x. is_budget_of x (quiet label)) thread ∙ paid)
    ∙ unpaid-begins label ticks n r b paid

-- By when a job is over in a ledger that follows the rules, and whose its last tick is.
use Rattle.std.proofs.Common.{ℕ, zero, suc, ◌≡◌, ◌+◌, ◌-◌, ◌%◌, ◌<◌, ◌≤◌, ◌⊎◌, inl, inr, Bool, true, false, cond, leb, ltb, ◌&&◌, ◌||◌, List, [], ◌∷◌, ◌++◌, length, take, drop, get_or, refl, sym, ap, ◌∙◌, subst, arith, Option, Some, None}
use Rattle.std.specs.Prelude.{count_by, reverse, position}
use Rattle.std.specs.List.{list_any}
use Rattle.std.specs.Option.{option_or, option_map_or}
use Rattle.std.specs.Bool.{then_some}
use Rattle.std.proofs.lemmas.Bool.{cases_Bool, cases_lt}
use Rattle.std.proofs.lemmas.Bool.Decides.{nat_tests}
use Rattle.std.proofs.lemmas.List.{length-drop, length-take-le, length-reverse, reverse-append, get_or-drop, get_or-reverse}
use Rattle.std.proofs.lemmas.List.Quantifiers.{position-Some}
use Rattle.std.proofs.Math.Seq.{take-add}
use Rattle.dk_config.specs.Configuration.{Configuration}
use Rattle.dk_config.specs.Checked.{IsChecked, IsAccepted}
use Rattle.dk_config.specs.Windows.{period, main_level, budget, window_start}
use Rattle.dk_trace.specs.declared.ThreadId.{ThreadId}
use Rattle.dk_trace.specs.declared.Entry.{Entry}
use Rattle.dk_trace.specs.Entries.{does, is_budget_of, is_end, is_of, is_wait, stops}
use Rattle.dk_trace.specs.Threads.{Thread, family, main_thread, share, lent_at}
use Rattle.dk_trace.specs.Jobs.{Job, job}
use Rattle.dk_trace.specs.Audit.{Audited}
use Rattle.dk_trace.specs.Guarantees.{past_at, job_from}
use Rattle.dk_trace.proofs.Windows.{take-newest, count_by-cons}
use Rattle.dk_trace.proofs.Mains.{main_id, main_row, main_stop, stopped_before-same}
use Rattle.dk_trace.proofs.Rows.{main_stop-old}
use Rattle.dk_trace.proofs.Silent.{stops-main}
use Rattle.dk_trace.proofs.Orderly.{job_at}
use Rattle.dk_bound.proofs.Bounded.{past_at-later}
use Rattle.dk_bound.proofs.Received.{share-then}
use Rattle.dk_bound.proofs.Laws.{bounded}
use Rattle.dk_bound.proofs.Before.{main-among}
use Rattle.dk_bound.proofs.ByWhen.{audited-drop}
use Rattle.dk_chain.specs.InOrder.{IsOver, HasBegun}
use Rattle.dk_chain_ledger.specs.Jobs.{closes, first_in, last_in, over_in}
use Rattle.dk_chain_ledger.proofs.Windows.{drop-drop, window-turned, first-early, last-early, last-most, last-passes, first-passes, first-some, first-most, last-some, count-newest}

-- a ledger that follows the rules of a configuration
pub record Ruled (c : Configuration) (past : List Entry) : Type 0 where
  pub checked : IsChecked c
  pub accepted : IsAccepted c
  pub audited : Audited c past

-- a window of a main that is in the ledger as a whole
pub record Whole (c : Configuration) (past : List Entry) (p s : ℕ) : Type 0 where
  pub here : p < length c.processes
  pub begins : s % period c (main_level c p) ≡ 0
  pub ends : s + period c (main_level c p) ≤ length past

pub past_at-size : (past : List Entry) (v : ℕ) → v ≤ length past → length (past_at past v) ≡ v
past_at-size past v le = length-drop (length past - v) past ∙ omega arith

pub past_at-audited : (c : Configuration) (past : List Entry) (v : ℕ) → Audited c past → Audited c (past_at past v)
past_at-audited c past v audited = audited-drop c (length past - v) past audited

past_at-both : (past : List Entry) (s v : ℕ) → s ≤ v → v ≤ length past → past_at (past_at past v) s ≡ past_at past s
past_at-both past s v le known =
    let size = past_at-size past v known in
    let sum : (length past - v) + (length (past_at past v) - s) ≡ length past - s = omega (arith, size) in
    drop-drop (length (past_at past v) - s) (length past - v) past ∙ ap (λ k. drop k past) sum

-- the numbers of a job in a window that the past doesn't go beyond
pub job-is : (c : Configuration) (past : List Entry) (x : Thread) (s : ℕ) → s % period c x.level ≡ 0 → length past ≤ s + period c x.level
    → job_from c past x s ≡ job_at c s past x
job-is c past x s begins le =
    let start : window_start c x.level s ≡ s = rw begins (omega arith) in
    ap (λ es. job c s es x) (past_at-later past (s + period c x.level) le) ∙ ap (λ w. job_at c w past x) start

-- where the main stopped in the window, or waited, an entry of it says so
closes-of : (p s end : ℕ) (past : List Entry)
    → (list_any (does is_wait (main_id p)) (take (length past - s) past) || option_map_or (λ stop. leb s stop && ltb stop end) (main_stop p past) false) ≡ true
    → list_any (closes (main_id p)) (take (length past - s) past) ≡ true
closes-of p s end [] shut =
    let none : 0 - s ≡ 0 = omega arith in
    let shut' = rw none at shut in
    absurd (cc)
closes-of p s end (e ∷ past) shut =
    elim (cases_lt (length past) s) [
      | inl early ↦
          let none : suc (length past) - s ≡ 0 = omega arith in
          let shut' : option_map_or (λ stop. leb s stop && ltb stop end) (main_stop p (e ∷ past)) false ≡ true =
          (rw none at shut) in
          absurd (not-stopped (main_stop p (e ∷ past)) shut' (λ t is. let old = main_stop-old p (e ∷ past) t is in omega (arith, old, early)))
      | inr from ↦
          let newest : take (suc (length past) - s) (e ∷ past) ≡ e ∷ take (length past - s) past = take-newest (length past) s e past from in
          let shut' : ((does is_wait (main_id p) e || list_any (does is_wait (main_id p)) (take (length past - s) past))
          || option_map_or (λ stop. leb s stop && ltb stop end) (option_or (main_stop p past) (then_some (stops (main_id p) e) (length past))) false) ≡ true =
          subst (λ es. (list_any (does is_wait (main_id p)) es || option_map_or (λ stop. leb s stop && ltb stop end) (main_stop p (e ∷ past)) false) ≡ true) newest shut in
          let all : (closes (main_id p) e || list_any (closes (main_id p)) (take (length past - s) past)) ≡ true =
          (elim (cases_Bool (closes (main_id p) e)) [
            | inl now ↦ rw now refl
            | inr not ↦
                let waits : does is_wait (main_id p) e ≡ false = or-left (does is_wait (main_id p) e) (does is_end (main_id p) e) not in
                let ends : does is_end (main_id p) e ≡ false = or-right (does is_wait (main_id p) e) (does is_end (main_id p) e) not in
                let runs : stops (main_id p) e ≡ false = (elim (cases_Bool (stops (main_id p) e)) [
                  | inl over ↦ (let over' = stops-main p e over in absurd (cc))
                  | inr runs ↦ runs
                ]) in
                let before : (list_any (does is_wait (main_id p)) (take (length past - s) past)
                || option_map_or (λ stop. leb s stop && ltb stop end) (main_stop p past) false) ≡ true =
                go (list_any (does is_wait (main_id p)) (take (length past - s) past)) (main_stop p past) waits runs shut' in
                rw (not, closes-of p s end past before) refl
          ]) in
          subst (λ es. list_any (closes (main_id p)) es ≡ true) (sym newest) all
    ]
  where
    or-left : (a b : Bool) → (a || b) ≡ false → a ≡ false
    or-left a b h = grind (arith, nat_tests)

    or-right : (a b : Bool) → (a || b) ≡ false → b ≡ false
    or-right a b h = grind (arith, nat_tests)

    not-stopped : (stop : Option ℕ) → option_map_or (λ stop. leb s stop && ltb stop end) stop false ≡ true → ((t : ℕ) → stop ≡ Some t → t < s) → ⊥
    not-stopped None h old = absurd (cc)
    not-stopped (Some t) h old = let less = old t refl in grind (arith, nat_tests)

    go : (any : Bool) (stop : Option ℕ) → does is_wait (main_id p) e ≡ false → stops (main_id p) e ≡ false
        → ((does is_wait (main_id p) e || any) || option_map_or (λ stop. leb s stop && ltb stop end) (option_or stop (then_some (stops (main_id p) e) (length past))) false) ≡ true
        → (any || option_map_or (λ stop. leb s stop && ltb stop end) stop false) ≡ true
    go any None waits runs h = let h' = rw (waits, runs) at h in h'
    go any (Some t) waits runs h = let h' = rw waits at h in h'

-- whether the main stopped before the window is settled by then
stopped-then : (p s j : ℕ) (es : List Entry) → s ≤ length (drop j es)
    → option_map_or (λ stop. ltb stop s) (main_stop p es) false ≡ option_map_or (λ stop. ltb stop s) (main_stop p (drop j es)) false
stopped-then p s zero es le = refl
stopped-then p s (suc j) [] le = refl
stopped-then p s (suc j) (e ∷ es) le =
    let size = length-drop j es in
    stopped_before-same (length es) s (main_stop p es) (stops (main_id p) e) (omega (arith, size, le)) ∙ stopped-then p s j es le

share-of : (c : Configuration) (p s : ℕ) (then past past' : List Entry)
    → option_map_or (λ stop. ltb stop s) (main_stop p past) false ≡ option_map_or (λ stop. ltb stop s) (main_stop p past') false
    → share c then (main_row c p past) s ≡ share c then (main_row c p past') s
share-of c p s then past past' same = ap (λ b. cond b 0 (budget c p - lent_at c s (family c p then))) same

-- Once a job is over, the main has no more ticks on its budget in the window, or it has waited or stopped.
over-shows : (c : Configuration) (past : List Entry) (p s v : ℕ) → Ruled c past → Whole c past p s → s ≤ v → v ≤ s + period c (main_level c p)
    → IsOver c (past_at past v) p s
    → (count_by (is_budget_of (main_id p)) (take (period c (main_level c p)) (past_at past (s + period c (main_level c p))))
    ≤ count_by (is_budget_of (main_id p)) (take (v - s) (past_at past v)))
    ⊎ (list_any (closes (main_id p)) (take (v - s) (past_at past v)) ≡ true)
over-shows c past p s v rules whole from to over =
    let i = main_level c p in
    let P = period c i in
    let D = past_at past (s + P) in
    let V = past_at past v in
    let ends = whole.ends in
    let size_d : length D ≡ s + P = past_at-size past (s + P) ends in
    let size_v : length V ≡ v = past_at-size past v (omega (arith, to, ends)) in
    let x = main_row c p V in
    let y = main_row c p D in
    let audited_d = past_at-audited c past (s + P) rules.audited in
    let audited_v = past_at-audited c past v rules.audited in
    let job_v : job_from c V x s ≡ job_at c s V x = job-is c V x s whole.begins (omega (arith, size_v, to)) in
    let job_d : job_from c D y s ≡ job_at c s D y = job-is c D y s whole.begins (omega (arith, size_d)) in
    let had = subst (λ (j : Job). (j.share ≤ j.used) ⊎ (j.closed ≡ true)) job_v (over x (main-among c p V whole.here) refl refl) in
    elim had [
      | inr shut ↦
          inr (subst (λ n. list_any (closes (main_id p)) (take (n - s) V) ≡ true) size_v (closes-of p s (s + P) V shut))
      | inl all ↦
          let most = subst (λ (j : Job). j.used ≤ share c (past_at D s) y s) job_d ((bounded c D rules.checked rules.accepted audited_d).0 y s (main-among c p D whole.here) whole.begins) in
          let then_v : share c V x s ≡ share c (past_at V s) x s = share-then c p s V x rules.checked whole.here audited_v refl (omega (arith, size_v, from)) in
          let same_v : past_at V s ≡ past_at past s = past_at-both past s v from (omega (arith, to, ends)) in
          let same_d : past_at D s ≡ past_at past s = past_at-both past s (s + P) (omega arith) ends in
          let sum : (length past - (s + P)) + (s + P - v) ≡ length past - v = omega (arith, to, ends) in
          let later : drop (s + P - v) D ≡ V = drop-drop (s + P - v) (length past - (s + P)) past ∙ ap (λ k. drop k past) sum in
          let size_l : length (drop (s + P - v) D) ≡ v = ap length later ∙ size_v in
          let stopped = subst (λ es. option_map_or (λ stop. ltb stop s) (main_stop p D) false ≡ option_map_or (λ stop. ltb stop s) (main_stop p es) false) later
          (stopped-then p s (s + P - v) D (omega (arith, size_l, from))) in
          let shares : share c (past_at D s) y s ≡ share c V x s =
          ap (λ es. share c es y s) same_d ∙ share-of c p s (past_at past s) D V stopped ∙ sym (then_v ∙ ap (λ es. share c es x s) same_v) in
          let used_d : count_by (is_budget_of (main_id p)) (take (length D - s) D) ≡ count_by (is_budget_of (main_id p)) (take P D) =
          ap (λ n. count_by (is_budget_of (main_id p)) (take n D)) (omega (arith, size_d)) in
          let used_v : count_by (is_budget_of (main_id p)) (take (length V - s) V) ≡ count_by (is_budget_of (main_id p)) (take (v - s) V) =
          ap (λ n. count_by (is_budget_of (main_id p)) (take (n - s) V)) size_v in
          inl (omega (arith, all, most, shares, used_d, used_v))
    ]

pub count-append : (test : Entry → Bool) (xs ys : List Entry) → count_by test (xs ++ ys) ≡ count_by test xs + count_by test ys
count-append test [] ys = omega arith
count-append test (x ∷ xs) ys =
    let one = count_by-cons test x xs in
    let all = count_by-cons test x (xs ++ ys) in
    let rest = count-append test xs ys in
    omega (arith, one, all, rest)

abbrev pub window_in : Configuration → List Entry → ℕ → ℕ → List Entry
window_in c past p s = take (period c (main_level c p)) (drop s (reverse past))

-- By the tick at which the job is over, the ledger says so.
pub over-by : (c : Configuration) (past : List Entry) (p s v : ℕ) → Ruled c past → Whole c past p s → s ≤ v → v ≤ s + period c (main_level c p)
    → IsOver c (past_at past v) p s → over_in (main_id p) (window_in c past p s) ≤ v - s
over-by c past p s v rules whole from to over =
    let P = period c (main_level c p) in
    let D = past_at past (s + P) in
    let V = past_at past v in
    let ends = whole.ends in
    let f = v - s in
    let later = take (P - f) D in
    let early = take f V in
    let size_v : length V ≡ v = past_at-size past v (omega (arith, to, ends)) in
    let sum : (length past - (s + P)) + (P - f) ≡ length past - v = omega (arith, to, from, ends) in
    let rest : drop (P - f) D ≡ V = drop-drop (P - f) (length past - (s + P)) past ∙ ap (λ k. drop k past) sum in
    let whole_p : (P - f) + f ≡ P = omega (arith, to, from) in
    let split : take P D ≡ later ++ early =
    ap (λ k. take k D) (sym whole_p) ∙ take-add (P - f) f D ∙ ap (λ es. later ++ take f es) rest in
    let size : length early ≡ f = length-take-le f V (omega (arith, size_v)) in
    let turned : window_in c past p s ≡ reverse early ++ reverse later =
    window-turned past s P ends ∙ ap reverse split ∙ reverse-append later early in
    let size' : length (reverse early) ≡ f = length-reverse early ∙ size in
    let is : over_in (main_id p) (window_in c past p s) ≡ over_in (main_id p) (reverse early ++ reverse later) = ap (over_in (main_id p)) turned in
    elim (over-shows c past p s v rules whole from to over) [
      | inl used ↦
          let counts = ap (count_by (is_budget_of (main_id p))) split ∙ count-append (is_budget_of (main_id p)) later early in
          let none : count_by (is_budget_of (main_id p)) later ≡ 0 = omega (arith, counts, used) in
          let last = last-early (is_budget_of (main_id p)) (reverse early) later none in
          omega (arith, last, size', is)
      | inr shut ↦
          let first = first-early (closes (main_id p)) early (reverse later) shut in
          omega (arith, first, size, is)
    ]

closes-own : (m : ThreadId) (e : Entry) → closes m e ≡ true → is_of m e ≡ true
closes-own m e shut = grind (arith, nat_tests)

pub budget-own : (m : ThreadId) (e : Entry) → is_budget_of m e ≡ true → is_of m e ≡ true
budget-own m e paid = grind (arith, nat_tests)

-- the last tick of a job is the main's
pub over-own : (p : ℕ) (window : List Entry) (k : ℕ) (d : Entry) → position (is_budget_of (main_id p)) window ≡ Some k
    → (0 < over_in (main_id p) window) × (over_in (main_id p) window ≤ length window)
    × (is_of (main_id p) (get_or window (over_in (main_id p) window - 1) d) ≡ true)
over-own p window k d at =
    let m = main_id p in
    let found = position-Some (is_budget_of m) window k d at in
    let some = last-some (is_budget_of m) window k at d in
    let some' = first-some (closes m) window (let less = found.0 in omega (arith, less)) in
    let most = first-most (closes m) window in
    elim (cases_lt (first_in (closes m) window) (last_in (is_budget_of m) window)) [
      | inr last ↦
          let is : over_in m window ≡ last_in (is_budget_of m) window = omega (arith, last) in (
            omega (arith, is, some),
            omega (arith, most),
            subst (λ n. is_of m (get_or window (n - 1) d) ≡ true) (sym is) (budget-own m (get_or window (last_in (is_budget_of m) window - 1) d) (last-passes (is_budget_of m) window d some)),
          )
      | inl first ↦
          let is : over_in m window ≡ first_in (closes m) window = omega (arith, first) in
          let short : first_in (closes m) window < length window = (let l = last-most (is_budget_of m) window in omega (arith, first, l)) in (
            omega (arith, is, some'),
            omega (arith, most),
            subst (λ n. is_of m (get_or window (n - 1) d) ≡ true) (sym is) (closes-own m (get_or window (first_in (closes m) window - 1) d) (first-passes (closes m) window d short)),
          )
    ]

-- once the main had a tick of its budget in the window, its job has begun
pub begun-by : (c : Configuration) (past : List Entry) (q r k : ℕ) (d : Entry) → r % period c (main_level c q) ≡ 0 → k < period c (main_level c q)
    → r + k < length past → is_budget_of (main_id q) (get_or (reverse past) (r + k) d) ≡ true → HasBegun c (past_at past (r + k + 1)) q r
begun-by c past q r k d begins short known paid =
    let v = r + k + 1 in
    let V = past_at past v in
    let size : length V ≡ v = past_at-size past v (omega arith) in
    let index : length past - 1 - (r + k) ≡ (length past - v) + 0 = omega arith in
    let newest : get_or (reverse past) (r + k) d ≡ get_or V 0 d =
    get_or-reverse past (r + k) d known ∙ ap (λ j. get_or past j d) index ∙ sym (get_or-drop (length past - v) past 0 d) in
    let now : is_budget_of (main_id q) (get_or V 0 d) ≡ true = subst (λ e. is_budget_of (main_id q) e ≡ true) newest paid in
    let some = count-newest (is_budget_of (main_id q)) k V d (omega (arith, size)) now in
    let job : job_from c V (main_thread c q) r ≡ job_at c r V (main_thread c q) = job-is c V (main_thread c q) r begins (omega (arith, size)) in
    let since : length V - r ≡ suc k = omega (arith, size) in
    let used : (job_from c V (main_thread c q) r).used ≡ count_by (is_budget_of (main_id q)) (take (suc k) V) =
    ap (λ (j : Job). j.used) job ∙ ap (λ n. count_by (is_budget_of (main_id q)) (take n V)) since in
    omega (arith, some, used)

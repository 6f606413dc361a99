-- By when in its window a process has had its allotment: an induction along the window.
use Rattle.dk_slack_promise.proofs.Names.{ℕ, suc, ◌≡◌, ◌+◌, ◌-◌, ◌*◌, ◌%◌, ◌<◌, ◌≤◌, ◌⊎◌, inl, inr, true, false, cond, eqb, leb, ltb, List, [], ◌∷◌, length, refl, sym, ap, ◌∙◌, subst, arith, Some, None, count_by, cases_Bool, cases_lt, nat_tests, zero-mod, Configuration, IsChecked, main_level, period, window_start, Entry, window, Thread, blocking, Audited, Always, holders-fit, steady, steady-fair, ready-of, blocks_at_most, HoldersFit, threads-fit, paid_by_kernel, kernel-counts, Kind, paid, lent, kernel, idle, kind, count-begins, count-charged, window-charged, window-goes-on, window_start-le, past_at}
use Rattle.std.specs.Prelude.{take, min}
use Rattle.std.proofs.lemmas.List.{length-drop}
use Rattle.std.proofs.Math.Nat.{le-div_iff_mul-le, mul-le-mul_left}
use Rattle.dk_config.specs.Windows.{max_level, slots}
use Rattle.dk_config.specs.Ahead.{windows_begun, slowest_up_to}
use Rattle.dk_trace.proofs.RowsFit.{RowFits}
use Rattle.dk_bound.proofs.Ahead.{work_left, paid_to, ReachesTo, left-entry, left-moves, left-start, told-paid}
use Rattle.dk_bound.proofs.Blocking.{blocking-unpaid}
use Rattle.dk_bound.proofs.Bounded.{window-start}
use Rattle.dk_bound.proofs.ByWhen.{goes-on, audited-drop}
use Rattle.dk_bound.proofs.LevelByWhen.{slowest-low, told}
use Rattle.dk_bound.proofs.Received.{past_at-earlier, past_at-now}
use Rattle.dk_slack_promise.specs.Lent.{is_lent, ticks_lent}
use Rattle.dk_slack_promise.specs.Long.{IsOpen, is_lent_to}
use Rattle.dk_slack_promise.specs.Allotted.{own_lent}
use Rattle.dk_slack_promise.specs.Soon.{allotted_begun, IsSoon, AllottedByWhen}
use Rattle.dk_slack_promise.proofs.Pressed.{IsPressed, lent_one, Pays, pays-falls, pays-less}
use Rattle.dk_slack_promise.proofs.Ended.{past-twice}
use Rattle.dk_slack_promise.proofs.First.{one_of, open-claims}
use Rattle.dk_slack_promise.proofs.Allotted.{counted, Bursts, bursts, not-slower, lent-sum, sum_from-less, Asks, asks-before, open-presses, keeps-drop}

-- what the levels up to m still need until a tick
abbrev left_at : Configuration → ℕ → ℕ → ℕ → List Entry → ℕ
left_at c m end n past = work_left c m (slowest_up_to c m) end n past

-- a pressed tick: level m waits a tick less, or needs one less, or lent one
shortens : (c : Configuration) (m : ℕ) (e : Entry) (past : List Entry) → IsChecked c → Audited c (e ∷ past) → HoldersFit c (length past) past
    → (w : Kind c past e.label) → IsPressed c past e.label m w
    → blocking c (e ∷ past) m + 1 ≤ blocking c past m + (paid_by_kernel m e + paid_to c (slowest_up_to c m) e past + lent_one e)
shortens c m e past checked audited inv (paid k x low passed has turn pays borrows level) pressed =
    let know : Pays c e past m k x = record { checked = checked; audited = audited; holders = inv; among = has; turn = turn; reaches = pressed; pays = pays } in
    let fit = threads-fit c past checked audited.0 in
    elim (cases_lt m x.level) [
      | inl slow ↦ let less = pays-less c e past m k x know slow in omega (arith, less)
      | inr fast ↦
          let falls = pays-falls c e past m k x know in
          let row = fit.rows x has in
          let t = told c m x row (omega (arith, fast)) in
          let one = told-paid c t.0 (slowest_up_to c m) e past x row.known (fit.place x has) t.1 t.2 pays in
          omega (arith, falls, one)
    ]
shortens c m e past checked audited inv (lent k x low passed has none fitting pays borrows level) pressed =
    let one : is_lent e ≡ true = rw borrows refl in
    let less = blocking-unpaid c e past m checked audited.0 audited.1 inv pays in
    rw one (omega (arith, less))
shortens c m e past checked audited inv (kernel k low passed left pays borrows level) pressed =
    let one = kernel-counts m k e pressed level in
    let less = blocking-unpaid c e past m checked audited.0 audited.1 inv pays in
    omega (arith, one, less)
shortens c m e past checked audited inv (idle passed pays borrows level) pressed = absurd pressed

-- As long as the process hasn't had its allotment: what comes before and all allotments fit what is left until the tick and what was lent.
record Behind (c : Configuration) (s : ℕ → ℕ) (p f end left n : ℕ) (past : List Entry) : Type 0 where
  room : blocking c past (main_level c p) + left_at c (main_level c p) end n past + allotted_begun c s (main_level c p) f
      ≤ left + ticks_lent c n past (main_level c p)
  none : (q : ℕ) → main_level c p < main_level c q → counted (is_lent_to q) c n past (main_level c p) ≡ 0

abbrev State : Configuration → (ℕ → ℕ) → ℕ → ℕ → ℕ → ℕ → ℕ → List Entry → Type 0
State c s p f end left n past = Behind c s p f end left n past ⊎ (s p ≤ own_lent c n past p)

-- until it was lent its allotment, the process is open at each tick from r on
abbrev Opens : Configuration → (ℕ → ℕ) → ℕ → ℕ → List Entry → Type 0
Opens c s p r past = (u : ℕ) → r ≤ u → u < length past → IsOpen c (past_at past u) p ⊎ (s p ≤ own_lent c u (past_at past u) p)

opens-before : (c : Configuration) (s : ℕ → ℕ) (p r : ℕ) (e : Entry) (past : List Entry) → Opens c s p r (e ∷ past) → Opens c s p r past
opens-before c s p r e past opens u from under =
    subst (λ q. IsOpen c q p ⊎ (s p ≤ own_lent c u q p)) (past_at-earlier e past u (omega (arith, under))) (opens u from (omega (arith, under)))

open-now : (c : Configuration) (s : ℕ → ℕ) (p r : ℕ) (e : Entry) (past : List Entry) → Opens c s p r (e ∷ past) → r ≤ length past
    → IsOpen c past p ⊎ (s p ≤ own_lent c (length past) past p)
open-now c s p r e past opens from =
    subst (λ q. IsOpen c q p ⊎ (s p ≤ own_lent c (length past) q p)) (past_at-earlier e past (length past) (omega arith) ∙ past_at-now past)
    (opens (length past) from (omega arith))

begins : (c : Configuration) (s : ℕ → ℕ) (p f : ℕ) (past : List Entry) → Asks c s p past → length past % period c (main_level c p) ≡ 0 → IsSoon c s (main_level c p) f
    → Behind c s p f (length past + f) f (length past) past
begins c s p f past know starts soon =
    let m = main_level c p in
    let known = know.checked.levels p know.here in
    let fair = steady-fair c past (steady c past know.checked know.accepted know.audited) in
    let start = left-start c m f (slowest_up_to c m) past know.checked known (slowest-low c m) fair know.audited starts soon.some in
    let most = blocks_at_most c past know.checked know.accepted know.audited m known in
    let room = soon.room in
    record {
      room = omega (arith, start, most, room);
      none = λ q slow. count-begins (is_lent_to q) c past m starts;
    }

-- the entry of a tick of the window
charged : (c : Configuration) (s : ℕ → ℕ) (p f end left r : ℕ) (e : Entry) (past : List Entry) → Asks c s p (e ∷ past) → Opens c s p r (e ∷ past) → r ≤ length past
    → State c s p f end (suc left) (length past) past → State c s p f end left (length past) (e ∷ past)
charged c s p f end left r e past know opens from (inr had) =
    let more : own_lent c (length past) (e ∷ past) p ≡ one_of (is_lent_to p) e + own_lent c (length past) past p = count-charged (is_lent_to p) c e past (main_level c p) in
    inr (omega (arith, had, more))
charged c s p f end left r e past know opens from (inl behind) =
    let n = length past in
    let m = main_level c p in
    let known = know.checked.levels p know.here in
    let more : own_lent c n (e ∷ past) p ≡ one_of (is_lent_to p) e + own_lent c n past p = count-charged (is_lent_to p) c e past m in
    elim (cases_lt (own_lent c n past p) (s p)) [
      | inr had ↦ inr (omega (arith, had, more))
      | inl less ↦
          elim (open-now c s p r e past opens from) [
            | inr had ↦ absurd (omega (arith, had, less))
            | inl is ↦
                let w = kind c past e know.audited.1 in
                let inv = holders-fit c past know.checked know.accepted know.audited.0 in
                let fair = steady-fair c (e ∷ past) (steady c (e ∷ past) know.checked know.accepted know.audited) in
                let short = shortens c m e past know.checked know.audited inv w (open-presses c s p e past know is less w) in
                let work = left-entry c m end (slowest_up_to c m) e past know.checked known (slowest-low c m) fair know.audited (ready-of c e past fair know.audited) in
                let lents : ticks_lent c n (e ∷ past) m ≡ lent_one e + ticks_lent c n past m = count-charged is_lent c e past m in
                let room = behind.room in
                inl (record {
                  room = omega (arith, short, work, lents, room);
                  none = λ q slow.
                      let off : one_of (is_lent_to q) e ≡ 0 = rw (not-slower c m q e past know.checked know.audited known (open-claims c past p is) slow) refl in
                      let own : counted (is_lent_to q) c n (e ∷ past) m ≡ one_of (is_lent_to q) e + counted (is_lent_to q) c n past m = count-charged (is_lent_to q) c e past m in
                      let before = behind.none q slow in
                      omega (arith, off, own, before);
                })
          ]
    ]

-- the next tick of the window
moved : (c : Configuration) (s : ℕ → ℕ) (p f end left : ℕ) (e : Entry) (past : List Entry) → Asks c s p (e ∷ past) → suc (length past) < end
    → suc (length past) % period c (main_level c p) ≡ suc (length past % period c (main_level c p))
    → State c s p f end left (length past) (e ∷ past) → State c s p f end left (suc (length past)) (e ∷ past)
moved c s p f end left e past know early long state = go state
  where
    same : window c (suc (length past)) (e ∷ past) (main_level c p) ≡ window c (length past) (e ∷ past) (main_level c p)
    same = window-goes-on c e past (main_level c p) long ∙ sym (window-charged c e past (main_level c p))

    go : State c s p f end left (length past) (e ∷ past) → State c s p f end left (suc (length past)) (e ∷ past)
    go (inr had) = inr (subst (λ es. s p ≤ count_by (is_lent_to p) es) (sym same) had)
    go (inl behind) =
        let m = main_level c p in
        let fair = steady-fair c (e ∷ past) (steady c (e ∷ past) know.checked know.accepted know.audited) in
        let work = left-moves c m end (slowest_up_to c m) e past know.checked (know.checked.levels p know.here) (slowest-low c m) fair know.audited early in
        let lents : ticks_lent c (suc (length past)) (e ∷ past) m ≡ ticks_lent c (length past) (e ∷ past) m = ap (count_by is_lent) same in
        let room = behind.room in
        inl (record {
          room = omega (arith, work, lents, room);
          none = λ q slow. ap (count_by (is_lent_to q)) same ∙ behind.none q slow;
        })

along : (c : Configuration) (s : ℕ → ℕ) (p r f left : ℕ) (past : List Entry) → Asks c s p past → Opens c s p r past → r % period c (main_level c p) ≡ 0 → IsSoon c s (main_level c p) f
    → r ≤ length past → length past + left ≡ r + f → 0 < left → State c s p f (r + f) left (length past) past
along c s p r f left [] know opens starts soon from at some =
    let zero_r : r ≡ 0 = omega (arith, from) in
    let same : left ≡ f = omega (arith, at, from) in
    subst (λ w. State c s p f (w + f) left 0 []) (sym zero_r)
    (subst (λ l. State c s p f (0 + f) l 0 []) (sym same)
    (inl (begins c s p f [] know (zero-mod (period c (main_level c p))) soon)))
along c s p r f left (e ∷ past) know opens starts soon from at some =
    let n = length past in
    let m = main_level c p in
    elim (cases_lt n r) [
      | inl new ↦
          let start : r ≡ suc n = omega (arith, new, from) in
          let same : left ≡ f = omega (arith, at, start) in
          subst (λ w. State c s p f (w + f) left (suc n) (e ∷ past)) (sym start)
          (subst (λ l. State c s p f (suc n + f) l (suc n) (e ∷ past)) (sym same)
          (inl (begins c s p f (e ∷ past) know (subst (λ v. v % period c m ≡ 0) start starts) soon)))
      | inr old ↦
          let within = soon.within in
          let before = along c s p r f (suc left) past (asks-before c s p e past know) (opens-before c s p r e past opens) starts soon (omega (arith, old)) (omega (arith, at)) (omega arith) in
          moved c s p f (r + f) left e past know (omega (arith, at, some))
          (goes-on c m r n (know.checked.positive m (know.checked.levels p know.here)) starts (omega (arith, old)) (omega (arith, at, some, within)))
          (charged c s p f (r + f) left r e past know opens (omega (arith, old)) before)
    ]

-- a process was lent d ticks less than its allotments begun, if it was so in its own window
term-le : (c : Configuration) (s : ℕ → ℕ) (q m d x own r f : ℕ) (past : List Entry) → 0 < period c (main_level c q) → window_start c m (length past) ≡ r
    → suc (length past) ≡ r + f → (b : Bursts c s q m past) → x ≤ s q * b.over + own → own + d ≤ s q → x + d ≤ s q * windows_begun c (main_level c q) f
term-le c s q m d x own r f past positive start size b most fit =
    let P = period c (main_level c q) in
    let place = b.place in
    let low = window_start-le c (main_level c q) (length past) in
    let next : suc b.over * P ≡ b.over * P + P = omega arith in
    let reach : suc b.over * P ≤ f + (P - 1) = omega (arith, place, low, start, size, next, positive) in
    let begun : suc b.over ≤ windows_begun c (main_level c q) f = (le-div_iff_mul-le positive).1 reach in
    let product : s q * suc b.over ≤ s q * windows_begun c (main_level c q) f = mul-le-mul_left (s q) begun in
    let more : s q * suc b.over ≡ s q * b.over + s q = omega arith in
    omega (arith, product, more, most, fit)

-- after the last of these ticks
enough : (c : Configuration) (s : ℕ → ℕ) (p r f : ℕ) (e : Entry) (past : List Entry) → Asks c s p (e ∷ past) → suc (length past) ≡ r + f → window_start c (main_level c p) (length past) ≡ r
    → State c s p f (r + f) 0 (length past) (e ∷ past) → s p ≤ own_lent c (length past) (e ∷ past) p
enough c s p r f e past know size start (inr had) = had
enough c s p r f e past know size start (inl behind) =
    elim (cases_lt (own_lent c (length past) (e ∷ past) p) (s p)) [
      | inr had ↦ omega (arith, had)
      | inl short ↦
          let n = length past in
          let m = main_level c p in
          let N = length c.processes in
          let all = lent-sum c (suc n - window_start c m n) (e ∷ past) know.checked know.audited in
          let sum = sum_from-less 0 N (λ q. counted (is_lent_to q) c n (e ∷ past) m) (λ q. cond (leb (main_level c q) m) (s q * windows_begun c (main_level c q) f) 0) p
          (λ q a b. each q (omega (arith, b))) (omega arith) (omega (arith, know.here)) (mine short) in
          let room = behind.room in
          absurd (omega (arith, all, sum, room))
    ]
  where
    more : (q : ℕ) → counted (is_lent_to q) c (length past) (e ∷ past) (main_level c p) ≡ one_of (is_lent_to q) e + counted (is_lent_to q) c (length past) past (main_level c p)
    more q = count-charged (is_lent_to q) c e past (main_level c p)

    own_more : (q : ℕ) → own_lent c (length past) (e ∷ past) q ≡ one_of (is_lent_to q) e + own_lent c (length past) past q
    own_more q = count-charged (is_lent_to q) c e past (main_level c q)

    each : (q : ℕ) → q < length c.processes → counted (is_lent_to q) c (length past) (e ∷ past) (main_level c p) ≤ cond (leb (main_level c q) (main_level c p)) (s q * windows_begun c (main_level c q) f) 0
    each q there =
        let m = main_level c p in
        let known = know.checked.levels p know.here in
        elim (cases_lt m (main_level c q)) [
          | inl slow ↦ (let none = behind.none q slow in omega (arith, none))
          | inr reaches ↦
              let fast : leb (main_level c q) m ≡ true = grind (arith, nat_tests) in
              let b = bursts c s q m past know.checked there (omega (arith, reaches)) known know.keeps.0 in
              let most = b.most in
              let a = more q in
              let o = own_more q in
              let limit = know.keeps.1 q there in
              let positive = know.checked.positive (main_level c q) (know.checked.levels q there) in
              let term = term-le c s q m 0 (counted (is_lent_to q) c (length past) (e ∷ past) m) (own_lent c (length past) (e ∷ past) q) r f past positive start size b (omega (arith, most, a, o)) (omega (arith, limit)) in
              rw fast (omega (arith, term))
        ]

    mine : own_lent c (length past) (e ∷ past) p < s p
        → counted (is_lent_to p) c (length past) (e ∷ past) (main_level c p) + 1 ≤ cond (leb (main_level c p) (main_level c p)) (s p * windows_begun c (main_level c p) f) 0
    mine short =
        let m = main_level c p in
        let known = know.checked.levels p know.here in
        let fast : leb m m ≡ true = grind (arith, nat_tests) in
        let b = bursts c s p m past know.checked know.here (omega arith) known know.keeps.0 in
        let most = b.most in
        let o = own_more p in
        let positive = know.checked.positive m known in
        let term = term-le c s p m 1 (own_lent c (length past) (e ∷ past) p) (own_lent c (length past) (e ∷ past) p) r f past positive start size b (omega (arith, most, o)) (omega (arith, short)) in
        rw fast term

by-entry : (c : Configuration) (s : ℕ → ℕ) (p r f : ℕ) (q : List Entry) → Asks c s p q → Opens c s p r q → r % period c (main_level c p) ≡ 0 → IsSoon c s (main_level c p) f
    → length q ≡ r + f → s p ≤ count_by (is_lent_to p) (window c r q (main_level c p))
by-entry c s p r f [] know opens starts soon size = let some = soon.some in absurd (omega (arith, size, some))
by-entry c s p r f (e ∷ past) know opens starts soon size =
    let m = main_level c p in
    let some = soon.some in
    let within = soon.within in
    let from : r ≤ length past = omega (arith, size, some) in
    let same = window-start c m r (length past) starts from (omega (arith, size, within)) in
    let own : window_start c m r ≡ r = rw starts (omega arith) in
    let before = along c s p r f 1 past (asks-before c s p e past know) (opens-before c s p r e past opens) starts soon from (omega (arith, size)) (omega arith) in
    let state = charged c s p f (r + f) 0 r e past know opens from before in
    let all = enough c s p r f e past know size (same ∙ own) state in
    subst (λ (w : ℕ). s p ≤ count_by (is_lent_to p) (take (suc (length past) - w) (e ∷ past))) same all

pub allotted_by_when : Always AllottedByWhen
allotted_by_when c past checked accepted audited s p r f here fit keeps starts soon le opens =
    let k = length past - (r + f) in
    let early = past_at past (r + f) in
    let size : length early ≡ r + f = length-drop k past ∙ omega (arith, le) in
    let know : Asks c s p early =
    record { checked = checked; accepted = accepted; audited = audited-drop c k past audited; here = here; fit = fit; keeps = keeps-drop c s k past keeps } in
    let open_at : Opens c s p r early =
    λ u from under.
    let same : past_at early u ≡ past_at past u = past-twice past (r + f) u (omega (arith, under, size)) in
    subst (λ q. IsOpen c q p ⊎ (s p ≤ own_lent c u q p)) (sym same) (opens u from (omega (arith, under, size))) in
    by-entry c s p r f early know open_at starts soon size

-- The event at the end of a tick: what it does to jobs, demand and blocking.
use Rattle.dk_bound.proofs.Names.{ℕ, ◌-◌, suc, ◌≡◌, ◌+◌, ◌<◌, ◌≤◌, inl, inr, Bool, true, false, cond, ◌&&◌, ◌||◌, eqb, leb, ltb, List, [], ◌∷◌, length, refl, sym, ap, ◌∙◌, arith, sum_by, count_by, Option, None, is_none, list_any, option_or, option_map_or, then_some, cases_Bool, nat_tests, Configuration, IsChecked, IsAccepted, sum_from, period, release, window_start, window_end, ThreadId, Entry, Has, is_of, is_budget_of, is_out_of, does, is_wait, is_end, stops, window, quiet, Thread, threads, family, after_entry, share, job, thread_rem, kernel_rem, is_closed, held_by, held_after, greatest_left, thread_blocking, blocking, sum_starts, kernel_demand, own_demand, remaining_demand, Audited, AtEachEntry, shares_to_come, closes, closed_if, EventCloses, EventLowersRem, NewHaveNothing, EventKeepsKernel, given_up, given_up_by, EventLowersOwn, lost_shares, EventLowersRemaining, GivenUp, EventMovesHolds, EventMovesBlocking, sum-exchange, sum-only, window-charged, window_start-le, count-charged, main_id, sum_by-same, sum_by-zero, sum_by-add, sum_by-flat, sum_from-same, sum_from-add, ThreadsFit, threads-fit, same-job, quiet-stops, family-charged, job-charged, AllFair, share-same, share-new, window_end-above, new-row, Quiet, quiet-take, quiet-used, quiet-outs, stops-main, stops-child, new-silent, charge-row, charge-new, jobs-in-order, held-other, held-mine}
use Rattle.dk_bound.proofs.Fits.{steady-fair}
use Rattle.dk_bound.proofs.Begins.{thread_part}
use Rattle.dk_bound.proofs.Promises.{futures, futures-kept, futures-ended}
use Rattle.dk_bound.proofs.Demands.{cond-none, kept, up_to}
use Rattle.dk_bound.proofs.Locks.{held-quiet}
use Rattle.dk_bound.proofs.Blocking.{sum-after, blocking-after}
use Rattle.dk_bound.proofs.Joint.{holders-fit, steady}
use Rattle.dk_bound.proofs.TickMoves.{threads-charged, rem-charged, cond-back, starts-charged, blocking-moved}

-- all that the lemmas need of an entry
pub record IsEntry (c : Configuration) (e : Entry) (past : List Entry) : Type 0 where
  pub checked : IsChecked c
  pub audited : Audited c (e ∷ past)
  pub fair : AllFair c (e ∷ past)
  pub fit : ThreadsFit c past

stopped-booked : (within : ℕ → Bool) (n : ℕ) (stop : Option ℕ) (b : Bool) → within n ≡ true
    → option_map_or within (option_or stop (then_some b n)) false ≡ ((is_none stop && b) || option_map_or within stop false)
stopped-booked within n stop b h = grind (arith, nat_tests)

or-swap : (a b d f : Bool) → ((a || b) || (d || f)) ≡ ((a || d) || (b || f))
or-swap a b d f = grind (arith, nat_tests)

closed-booked : (c : Configuration) (e : Entry) (past : List Entry) (x : Thread) → 0 < period c x.level
    → is_closed c (length past) (e ∷ past) (after_entry e (length past) x) ≡ (closes e x || is_closed c (length past) past x)
closed-booked c e past x positive = grind (arith, nat_tests, window_end-above, window_start-le, window-charged, stopped-booked, or-swap)

job-booked : (c : Configuration) (e : Entry) (past : List Entry) (x : Thread) → IsEntry c e past → Has (threads c past) x
    → job c (length past) (e ∷ past) (after_entry e (length past) x) ≡ closed_if (closes e x) (job c (length past) (quiet e.label ∷ past) x)
job-booked c e past x is among =
    let n = length past in
    let i = x.level in
    let w = window_start c i n in
    let row = is.fit.rows x among in
    let positive : 0 < period c i = is.checked.positive i (let a = row.high in let b = is.checked.reaches x.id.process row.known in omega arith) in
    same-job (share c (e ∷ past) (after_entry e n x) w) (share c past x w)
    (count_by (is_budget_of x.id) (window c n (e ∷ past) i)) (cond (is_budget_of x.id e) 1 0 + count_by (is_budget_of x.id) (window c n past i))
    (count_by (is_out_of x.id) (window c n (e ∷ past) i)) (cond (is_out_of x.id e) 1 0 + count_by (is_out_of x.id) (window c n past i))
    (is_closed c n (e ∷ past) (after_entry e n x)) (closes e x || is_closed c n past x)
    (share-same c x.id.process w e past x is.checked row.known is.audited (is.fit.place x among) (window_start-le c i n))
    (count-charged (is_budget_of x.id) c e past i)
    (count-charged (is_out_of x.id) c e past i)
    (closed-booked c e past x positive)
    ∙ sym (ap (closed_if (closes e x)) (job-charged c e.label past x))

pub rem-booked : (c : Configuration) (e : Entry) (past : List Entry) (x : Thread) → IsEntry c e past → Has (threads c past) x
    → thread_rem c (length past) (e ∷ past) (after_entry e (length past) x) ≤ thread_rem c (length past) (quiet e.label ∷ past) x
rem-booked c e past x is among = grind (arith, nat_tests, charge-row, jobs-in-order, rem-charged)

kernel-booked : (c : Configuration) (e : Entry) (past : List Entry) (i : ℕ)
    → kernel_rem c (length past) (e ∷ past) i ≡ kernel_rem c (length past) (quiet e.label ∷ past) i
kernel-booked c e past i = grind (arith, nat_tests)

-- what is left at the levels that pass the test
rems-booked : (c : Configuration) (e : Entry) (past : List Entry) (test : ℕ → Bool) → IsEntry c e past
    → sum_by (kept test (thread_rem c (length past) (e ∷ past))) (threads c (e ∷ past)) + given_up_by test c e past
    ≡ sum_by (kept test (thread_rem c (length past) (quiet e.label ∷ past))) (threads c (quiet e.label ∷ past))
rems-booked c e past test is =
    let n = length past in
    let after : Thread → ℕ = λ x. thread_rem c n (e ∷ past) (after_entry e n x) in
    let before = thread_rem c n (quiet e.label ∷ past) in
    let there = sum-after c e past (kept test (thread_rem c n (e ∷ past)))
    (λ p here x new. cond-none (test x.level) (thread_rem c n (e ∷ past) x) (charge-new c p e past x is.checked here is.fair is.audited new).1) in
    let moved : sum_by (kept test before) (threads c (quiet e.label ∷ past)) ≡ sum_by (kept test before) (threads c past) =
    ap (sum_by (kept test before)) (threads-charged c e.label past) in
    let each = sum_by-same (λ x. kept test after x + kept test (given_up c e past) x) (kept test before) (threads c past)
    (λ x h. cond-back (test x.level) (after x) (given_up c e past x) (before x) (let le = rem-booked c e past x is h in omega (arith, le))) in
    let split = sum_by-add (kept test after) (kept test (given_up c e past)) (threads c past) in
    omega (arith, there, moved, each, split)

own-booked : (c : Configuration) (e : Entry) (past : List Entry) (j : ℕ) → IsEntry c e past
    → own_demand c (length past) (e ∷ past) j + given_up_by (λ i. eqb i j) c e past ≡ own_demand c (length past) (quiet e.label ∷ past) j
own-booked c e past j is = grind (arith, nat_tests, kernel-booked, rems-booked)

-- what the levels up to j need is what is left and what is to come
pub parts-all : (c : Configuration) (j n : ℕ) (past : List Entry)
    → sum_by (thread_part c j n past) (threads c past)
    ≡ sum_by (kept (up_to j) (thread_rem c n past)) (threads c past) + sum_from 0 (length c.processes) (λ p. futures c p j n past)
parts-all c j n past =
    let now = kept (up_to j) (thread_rem c n past) in
    let later = kept (up_to j) (λ x. sum_starts c x.level n (window_end c j n) (share c past x)) in
    sum_by-same (thread_part c j n past) (λ x. now x + later x) (threads c past)
    (λ x h. sym (cond-back (leb x.level j) (thread_rem c n past x) (sum_starts c x.level n (window_end c j n) (share c past x)) (thread_rem c n past x + sum_starts c x.level n (window_end c j n) (share c past x)) refl))
    ∙ sum_by-add now later (threads c past)
    ∙ ap (λ k. sum_by now (threads c past) + k) (sum_by-flat later (λ p. family c p past) 0 (length c.processes))

futures-charged : (c : Configuration) (p j : ℕ) (e : Entry) (past : List Entry)
    → futures c p j (length past) (quiet e.label ∷ past) ≡ futures c p j (length past) past
futures-charged c p j e past = grind (arith, nat_tests, family-charged, sum_by-same, starts-charged)

futures-booked : (c : Configuration) (p j : ℕ) (e : Entry) (past : List Entry) → IsEntry c e past → p < length c.processes → j < length c.levels
    → futures c p j (length past) (e ∷ past) + cond (does is_end (main_id p) e) (shares_to_come c (length past) (quiet e.label ∷ past) j p) 0
    ≡ futures c p j (length past) (quiet e.label ∷ past)
futures-booked c p j e past is here known = grind (arith, nat_tests, main_id, futures-ended, stops-child, stops-main, futures-kept, futures-charged)

remaining-booked : (c : Configuration) (e : Entry) (past : List Entry) (j : ℕ) → IsEntry c e past → j < length c.levels
    → remaining_demand c (length past) (e ∷ past) j + given_up_by (λ i. leb i j) c e past + lost_shares c e past j
    ≡ remaining_demand c (length past) (quiet e.label ∷ past) j
remaining-booked c e past j is known =
    let n = length past in
    let N = length c.processes in
    let E = window_end c j n in
    let lost : ℕ → ℕ = λ p. cond (does is_end (main_id p) e) (shares_to_come c n (quiet e.label ∷ past) j p) 0 in
    let after = parts-all c j n (e ∷ past) in
    let before = parts-all c j n (quiet e.label ∷ past) in
    let now = rems-booked c e past (up_to j) is in
    let later = sum_from-same 0 N (λ p. futures c p j n (e ∷ past) + lost p) (λ p. futures c p j n (quiet e.label ∷ past))
    (λ p a b. futures-booked c p j e past is (omega arith) known) in
    let split = sum_from-add 0 N (λ p. futures c p j n (e ∷ past)) lost in
    let kernel = sum_from-same 0 (suc j) (kernel_demand c n (e ∷ past) E) (kernel_demand c n (quiet e.label ∷ past) E)
    (λ i a b. ap (λ k. k + sum_starts c i n E (λ s. release c i)) (kernel-booked c e past i)) in
    omega (arith, after, before, now, later, split, kernel)

-- who isn't closed keeps what it has
pub rem-kept : (c : Configuration) (e : Entry) (past : List Entry) (x : Thread) → IsEntry c e past → Has (threads c past) x → closes e x ≡ false
    → thread_rem c (length past) (e ∷ past) (after_entry e (length past) x) ≡ thread_rem c (length past) (quiet e.label ∷ past) x
rem-kept c e past x is among stays = grind (arith, nat_tests, job-booked)

-- and gives nothing up
pub open-keeps : (c : Configuration) (e : Entry) (past : List Entry) (x : Thread) → IsEntry c e past → Has (threads c past) x → closes e x ≡ false
    → given_up c e past x ≡ 0
open-keeps c e past x is among stays = let same = rem-kept c e past x is among stays in omega (arith, same)

given-up : (c : Configuration) (e : Entry) (past : List Entry) → IsEntry c e past → GivenUp c e past
given-up c e past is = record {
  unclosed = λ x among stays. open-keeps c e past x is among stays;
  nobody =
      λ test none. sum_by-zero (kept test (given_up c e past)) (threads c past)
      (λ x h. cond-none (test x.level) (given_up c e past x) (open-keeps c e past x is h (none x h)));
  one =
      λ test x among only. sum-only (kept test (given_up c e past)) (threads c past) x is.fit.distinct among
      (λ y h other. cond-none (test y.level) (given_up c e past y) (open-keeps c e past y is h
      (elim (cases_Bool (closes e y)) [ inl shut ↦ absurd (other (only y h shut)) | inr stays ↦ stays ])));
}

holds-booked : (c : Configuration) (e : Entry) (past : List Entry) → EventMovesHolds c e past
holds-booked c e past x =
    elim (cases_Bool (stops x e)) [
      | inl over ↦ rw over refl
      | inr runs ↦ elim (cases_Bool (is_of x e)) [
        | inl mine ↦
            held-mine x e past runs mine ∙ ap (held_after e.event) (sym (held-quiet x e past mine))
            ∙ sym (ap (λ b. cond b [] (cond (is_of x e) (held_after e.event (held_by x (quiet e.label ∷ past))) (held_by x (quiet e.label ∷ past)))) runs
            ∙ ap (λ b. cond b (held_after e.event (held_by x (quiet e.label ∷ past))) (held_by x (quiet e.label ∷ past))) mine)
        | inr other ↦
            held-other x e past runs other ∙ sym (held-other x (quiet e.label) past (quiet-runs x) other)
            ∙ sym (ap (λ b. cond b [] (cond (is_of x e) (held_after e.event (held_by x (quiet e.label ∷ past))) (held_by x (quiet e.label ∷ past)))) runs
            ∙ ap (λ b. cond b (held_after e.event (held_by x (quiet e.label ∷ past))) (held_by x (quiet e.label ∷ past))) other)
      ]
    ]
  where
    quiet-runs : (y : ThreadId) → stops y (quiet e.label) ≡ false
    quiet-runs y = quiet-stops y e.label

same-blocking : (c : Configuration) (before after : List Entry) (j : ℕ) (x : Thread) → held_by x.id after ≡ held_by x.id before
    → thread_blocking c after j x ≡ thread_blocking c before j x
same-blocking c before after j x same = ap (λ hs. cond (ltb j x.level) (greatest_left c j hs) 0) same

blocking-booked : (c : Configuration) (e : Entry) (past : List Entry) → ThreadsFit c past
    → ((j : ℕ) → blocking c (e ∷ past) j ≡ sum_by (thread_blocking c (e ∷ past) j) (threads c past)) → EventMovesBlocking c e past
blocking-booked c e past fit sums_ = record {
  sums = sums_;
  keeps =
      λ same j. sums_ j
      ∙ sum_by-same (thread_blocking c (e ∷ past) j) (thread_blocking c (quiet e.label ∷ past) j) (threads c past)
      (λ x h. same-blocking c (quiet e.label ∷ past) (e ∷ past) j x (same x h))
      ∙ sym (blocking-moved c e.label past j);
  follows =
      λ x among others j. (let after = sums_ j in
      let before = blocking-moved c e.label past j in
      let both = sum-exchange (thread_blocking c (e ∷ past) j) (thread_blocking c (quiet e.label ∷ past) j) (threads c past) x fit.distinct among
      (λ y h other. same-blocking c (quiet e.label ∷ past) (e ∷ past) j y (others y h other)) in
      omega (arith, after, before, both));
}

pub entry-is : (c : Configuration) (e : Entry) (past : List Entry) → IsChecked c → IsAccepted c → Audited c (e ∷ past) → IsEntry c e past
entry-is c e past checked accepted audited = record {
  checked = checked;
  audited = audited;
  fair = steady-fair c (e ∷ past) (steady c (e ∷ past) checked accepted audited);
  fit = threads-fit c past checked audited.0;
}

pub event_closes : AtEachEntry EventCloses
event_closes c e past checked accepted audited x among = job-booked c e past x (entry-is c e past checked accepted audited) among

pub event_lowers_rem : AtEachEntry EventLowersRem
event_lowers_rem c e past checked accepted audited x among = rem-booked c e past x (entry-is c e past checked accepted audited) among

pub new_have_nothing : AtEachEntry NewHaveNothing
new_have_nothing c e past checked accepted audited p x here new =
    let n = length past in
    let fair = steady-fair c (e ∷ past) (steady c (e ∷ past) checked accepted audited) in
    let w = window_start c x.level n in
    let silent = quiet-take x.id (suc n - w) (e ∷ past) (new-silent c p e past x checked here fair audited new) in
    let runs : x.stop ≡ None = (new-row c p e past x audited.1 new).running in
    let waits = quiet-waits x.id (window c n (e ∷ past) x.level) silent in
    let stands : is_closed c n (e ∷ past) x ≡ false = rw (waits, runs) refl in
    same-job (share c (e ∷ past) x w) 0 (count_by (is_budget_of x.id) (window c n (e ∷ past) x.level)) 0
    (count_by (is_out_of x.id) (window c n (e ∷ past) x.level)) 0 (is_closed c n (e ∷ past) x) false
    (share-new c p w e past x checked here audited new (window_start-le c x.level n))
    (quiet-used x.id (window c n (e ∷ past) x.level) silent) (quiet-outs x.id (window c n (e ∷ past) x.level) silent) stands
  where
    quiet-waits : (y : ThreadId) (es : List Entry) → Quiet y es → list_any (does is_wait y) es ≡ false
    quiet-waits y [] h = refl
    quiet-waits y (f ∷ es) h =
        let other : does is_wait y f ≡ false = rw h.0 refl in
        rw other (quiet-waits y es h.1)

pub event_keeps_kernel : AtEachEntry EventKeepsKernel
event_keeps_kernel c e past checked accepted audited i = kernel-booked c e past i

pub event_lowers_own : AtEachEntry EventLowersOwn
event_lowers_own c e past checked accepted audited j = own-booked c e past j (entry-is c e past checked accepted audited)

pub event_lowers_remaining : AtEachEntry EventLowersRemaining
event_lowers_remaining c e past checked accepted audited j known = remaining-booked c e past j (entry-is c e past checked accepted audited) known

pub event_given_up : AtEachEntry GivenUp
event_given_up c e past checked accepted audited = given-up c e past (entry-is c e past checked accepted audited)

pub event_moves_holds : AtEachEntry EventMovesHolds
event_moves_holds c e past checked accepted audited = holds-booked c e past

pub event_moves_blocking : AtEachEntry EventMovesBlocking
event_moves_blocking c e past checked accepted audited =
    blocking-booked c e past (threads-fit c past checked audited.0)
    (λ j. blocking-after c e past j checked audited.0 audited.1 (holders-fit c past checked accepted audited.0))

-- a thread whose window the event doesn't close stays as it is
pub after-open : (e : Entry) (now : ℕ) (x : Thread) → closes e x ≡ false → after_entry e now x ≡ x
after-open e now x off = grind (arith, nat_tests)

-- The move to the next tick, and where windows begin: jobs and demand.
use Rattle.dk_bound.proofs.Names.{ℕ, suc, ◌≡◌, ◌+◌, ◌*◌, ◌/◌, ◌%◌, ◌<◌, ◌≤◌, inl, inr, true, false, eqb, leb, List, ◌∷◌, length, refl, ap, subst, arith, ◌∙◌, sym, [], sum_by, ◌∣◌, cases_Bool, nat_tests, zero-mod, mod-mod_of_dvd, dvd_trans, mod-eq-zero_of_dvd, Configuration, IsChecked, IsAccepted, sum_from, period, release, window_start, window_end, Entry, Has, is_kernel_at, window, Thread, threads, family, share, job, rem, thread_rem, kernel_rem, thread_demand, kernel_demand, own_demand, remaining_demand, Audited, Always, released, AtEachEntry, shares_to_come, begins, ClockKeeps, WindowsAreDone, starting_shares, WindowsRelease, mod-next, count-begins, sum_by-same, sum_by-flat, sum_from-same, sum_from-add, begins-together, starts-within, starts-begins, kernel-begins, ThreadsFit, threads-fit, same-job, job-moves, begins-open, begin-order}
use Rattle.dk_bound.proofs.HoldersFit.{WindowEnds}
use Rattle.dk_bound.proofs.Begins.{thread_part}
use Rattle.dk_bound.proofs.Demands.{kept, up_to, kernel_rem-moves, own-moves}
use Rattle.dk_bound.proofs.Fits.{ends-done}
use Rattle.dk_bound.proofs.Joint.{steady, window-ends}
use Rattle.dk_bound.proofs.EventMoves.{parts-all}

-- where a window begins
pub begins-mod : (c : Configuration) (i n : ℕ) → begins c i n ≡ true → n % period c i ≡ 0
begins-mod c i n h = grind (arith, nat_tests)

-- and where none does
pub within-mod : (c : Configuration) (i n : ℕ) → 0 < period c i → begins c i (suc n) ≡ false → suc n % period c i ≡ suc (n % period c i)
within-mod c i n positive h = grind (arith, nat_tests)

full-mod : (c : Configuration) (i n : ℕ) → 0 < period c i → suc n % period c i ≡ 0 → suc (n % period c i) ≡ period c i
full-mod c i n positive h = grind (arith, nat_tests)

-- the level of a row is one that there is
row-known : (c : Configuration) (past : List Entry) (x : Thread) → IsChecked c → ThreadsFit c past → Has (threads c past) x → x.level < length c.levels
row-known c past x checked fit among = grind (arith, nat_tests)

-- all that the lemmas need of an entry
pub record IsOver (c : Configuration) (e : Entry) (past : List Entry) : Type 0 where
  pub checked : IsChecked c
  pub audited : Audited c (e ∷ past)
  pub fit : ThreadsFit c (e ∷ past)
  pub rems : WindowEnds c e past
  pub own : (j : ℕ) → j < length c.levels → suc (length past) % period c j ≡ 0 → own_demand c (length past) (e ∷ past) j ≡ 0

kernel-done : (c : Configuration) (e : Entry) (past : List Entry) (i : ℕ) → IsOver c e past → i < length c.levels → suc (length past) % period c i ≡ 0
    → kernel_rem c (length past) (e ∷ past) i ≡ 0
kernel-done c e past i is known here = let none = is.own i known here in omega (arith, none)

kernel-kept : (c : Configuration) (e : Entry) (past : List Entry) (i j : ℕ) → IsOver c e past → i ≤ j → j < length c.levels
    → suc (length past) % period c j ≡ suc (length past % period c j)
    → kernel_demand c (suc (length past)) (e ∷ past) (window_end c j (suc (length past))) i
    ≡ kernel_demand c (length past) (e ∷ past) (window_end c j (length past)) i
kernel-kept c e past i j is le known long = grind (arith, nat_tests, mod-next, count-begins, starts-begins, kernel-done, kernel_rem-moves, starts-within)

thread-kept : (c : Configuration) (e : Entry) (past : List Entry) (j : ℕ) (x : Thread) → IsOver c e past → j < length c.levels
    → Has (threads c (e ∷ past)) x → x.level ≤ j → suc (length past) % period c j ≡ suc (length past % period c j)
    → thread_demand c (suc (length past)) (e ∷ past) (window_end c j (suc (length past))) x
    ≡ thread_demand c (length past) (e ∷ past) (window_end c j (length past)) x
thread-kept c e past j x is known among le long =
    let n = length past in
    let i = x.level in
    let f : ℕ → ℕ = share c (e ∷ past) x in
    let short = is.checked.positive i (omega arith) in
    let divides = is.checked.divides i j le known in
    let positive = is.checked.positive j known in
    elim (mod-next n (period c i) short) [
      | inl here ↦
          let p = x.id.process in
          let fresh : thread_rem c (suc n) (e ∷ past) x ≡ f (suc n) =
          (begin-order c p (e ∷ past) x is.checked (is.fit.rows x among).known is.audited (is.fit.place x among) here.0).1 in
          let sums = starts-begins c i j n f short divides positive here.0 here.1 long in
          let none = is.rems x among here.0 in
          omega (arith, fresh, sums, none)
      | inr within ↦
          let stays : thread_rem c (suc n) (e ∷ past) x ≡ thread_rem c n (e ∷ past) x = ap (rem c.costs.switch) (job-moves c n (e ∷ past) x within) in
          let sums = starts-within c i j n f within long in
          omega (arith, stays, sums)
    ]

remaining-kept : (c : Configuration) (e : Entry) (past : List Entry) (j : ℕ) → IsOver c e past → j < length c.levels
    → suc (length past) % period c j ≡ suc (length past % period c j)
    → remaining_demand c (suc (length past)) (e ∷ past) j ≡ remaining_demand c (length past) (e ∷ past) j
remaining-kept c e past j is known long =
    let n = length past in
    let kernel = sum_from-same 0 (suc j) (kernel_demand c (suc n) (e ∷ past) (window_end c j (suc n))) (kernel_demand c n (e ∷ past) (window_end c j n))
    (λ i a b. kernel-kept c e past i j is (omega arith) known long) in
    let all = sum_by-same (thread_part c j (suc n) (e ∷ past)) (thread_part c j n (e ∷ past)) (threads c (e ∷ past))
    (λ x h. elim (cases_Bool (leb x.level j)) [
      | inl fast ↦
          let le : x.level ≤ j = grind (arith, nat_tests) in
          rw fast (thread-kept c e past j x is known h le long)
      | inr slow ↦ rw slow refl
    ]) in
    omega (arith, kernel, all)

clock-keeps : (c : Configuration) (e : Entry) (past : List Entry) → IsOver c e past → ClockKeeps c e past
clock-keeps c e past is = record {
  jobs =
      λ x among not. job-moves c (length past) (e ∷ past) x
      (within-mod c x.level (length past) (is.checked.positive x.level (row-known c (e ∷ past) x is.checked is.fit among)) not);
  kernel = λ i known not. kernel_rem-moves c i (length past) (e ∷ past) (within-mod c i (length past) (is.checked.positive i known) not);
  own = λ j known not. own-moves c j (length past) (e ∷ past) (within-mod c j (length past) (is.checked.positive j known) not);
  remaining = λ j known not. remaining-kept c e past j is known (within-mod c j (length past) (is.checked.positive j known) not);
}

windows-done : (c : Configuration) (e : Entry) (past : List Entry) → IsOver c e past → WindowsAreDone c e past
windows-done c e past is = grind (arith, nat_tests)

pub over-is : (c : Configuration) (e : Entry) (past : List Entry) → IsChecked c → IsAccepted c → Audited c (e ∷ past) → IsOver c e past
over-is c e past checked accepted audited =
    let steady_ = steady c (e ∷ past) checked accepted audited in
    record {
      checked = checked;
      audited = audited;
      fit = threads-fit c (e ∷ past) checked audited;
      rems = window-ends c e past checked accepted audited steady_;
      own =
          λ j known here. ends-done c j e past checked accepted steady_ audited known
          (full-mod c j (length past) (checked.positive j known) here);
    }

pub clock_keeps : AtEachEntry ClockKeeps
clock_keeps c e past checked accepted audited = clock-keeps c e past (over-is c e past checked accepted audited)

pub windows_are_done : AtEachEntry WindowsAreDone
windows_are_done c e past checked accepted audited = windows-done c e past (over-is c e past checked accepted audited)

-- a job where a window of its level begins
job-released : (c : Configuration) (past : List Entry) (x : Thread) → IsChecked c → Audited c past → ThreadsFit c past → Has (threads c past) x
    → length past % period c x.level ≡ 0 → job c (length past) past x ≡ released (share c past x (length past))
job-released c past x checked audited fit among here = grind (arith, nat_tests, same-job, count-begins, begins-open)

pub rem-released : (c : Configuration) (past : List Entry) (x : Thread) → IsChecked c → Audited c past → ThreadsFit c past → Has (threads c past) x
    → length past % period c x.level ≡ 0 → thread_rem c (length past) past x ≡ share c past x (length past)
rem-released c past x checked audited fit among here = grind (arith, nat_tests, begin-order)

kernel-released : (c : Configuration) (past : List Entry) (i : ℕ) → length past % period c i ≡ 0 → kernel_rem c (length past) past i ≡ release c i
kernel-released c past i here = let none = count-begins (is_kernel_at i) c past i here in omega (arith, none)

own-released : (c : Configuration) (past : List Entry) (j : ℕ) → IsChecked c → Audited c past → ThreadsFit c past → length past % period c j ≡ 0
    → own_demand c (length past) past j ≡ release c j + sum_by (kept (λ i. eqb i j) (λ x. share c past x (length past))) (threads c past)
own-released c past j checked audited fit here =
    let n = length past in
    let kernel = kernel-released c past j here in
    let all = sum_by-same (kept (λ i. eqb i j) (thread_rem c n past)) (kept (λ i. eqb i j) (λ x. share c past x n)) (threads c past)
    (λ x h. elim (cases_Bool (eqb x.level j)) [
      | inl mine ↦
          let same : j ≡ x.level = grind (arith, nat_tests) in
          rw mine (rem-released c past x checked audited fit h (subst (λ i. n % period c i ≡ 0) same here))
      | inr other ↦ rw other refl
    ]) in
    omega (arith, kernel, all)

remaining-released : (c : Configuration) (past : List Entry) (j : ℕ) → IsChecked c → Audited c past → ThreadsFit c past → j < length c.levels
    → length past % period c j ≡ 0
    → remaining_demand c (length past) past j
    ≡ sum_from 0 (suc j) (λ i. release c i * (period c j / period c i))
    + sum_from 0 (length c.processes) (λ p. starting_shares c past j p + shares_to_come c (length past) past j p)
remaining-released c past j checked audited fit known here =
    let n = length past in
    let N = length c.processes in
    let now = kept (up_to j) (λ x. share c past x n) in
    let kernel = sum_from-same 0 (suc j) (kernel_demand c n past (window_end c j n)) (λ i. release c i * (period c j / period c i))
    (λ i a b. kernel-begins c i j past (checked.positive i (omega arith)) (checked.divides i j (omega arith) known) (checked.positive j known) here) in
    let parts = parts-all c j n past in
    let fresh = sum_by-same (kept (up_to j) (thread_rem c n past)) now (threads c past)
    (λ x h. elim (cases_Bool (leb x.level j)) [
      | inl fast ↦
          let le : x.level ≤ j = grind (arith, nat_tests) in
          rw fast (rem-released c past x checked audited fit h (begins-together n (period c x.level) (period c j) (checked.divides x.level j le known) here))
      | inr slow ↦ rw slow refl
    ]) in
    let flat = sum_by-flat now (λ p. family c p past) 0 N in
    let split = sum_from-add 0 N (λ p. starting_shares c past j p) (λ p. shares_to_come c n past j p) in
    omega (arith, kernel, parts, fresh, flat, split)

pub windows_release : Always WindowsRelease
windows_release c past checked accepted audited =
    let fit = threads-fit c past checked audited in
    record {
      jobs = λ x among here. job-released c past x checked audited fit among (begins-mod c x.level (length past) here);
      kernel = λ i known here. kernel-released c past i (begins-mod c i (length past) here);
      own = λ j known here. own-released c past j checked audited fit (begins-mod c j (length past) here);
      remaining = λ j known here. remaining-released c past j checked audited fit known (begins-mod c j (length past) here);
    }

pub begins-start : (c : Configuration) (i n : ℕ) → begins c i n ≡ true → window_start c i n ≡ n
begins-start c i n h = grind (arith, nat_tests)

pub mod-begins : (c : Configuration) (i n : ℕ) → n % period c i ≡ 0 → begins c i n ≡ true
mod-begins c i n h = let same : window_start c i n ≡ n = omega (arith, h) in grind (arith, nat_tests)

-- where a window begins, one of each faster level does
pub begins-faster : (c : Configuration) (i k n : ℕ) → period c i ∣ period c k → begins c k n ≡ true → begins c i n ≡ true
begins-faster c i k n divides h =
    mod-begins c i n (sym (mod-mod_of_dvd (period c i) n divides) ∙ ap (λ m. m % period c i) (begins-mod c k n h) ∙ zero-mod (period c i))

-- where no window of level 0 begins, the tick is no multiple of a level's period
pub not-now : (c : Configuration) (k now s : ℕ) → period c 0 ∣ period c k → begins c 0 now ≡ false → period c k ∣ s → eqb s now ≡ false
not-now c k now s divides off whole =
    elim (cases_Bool (eqb s now)) [
      | inr other ↦ other
      | inl same ↦
          let is : s ≡ now = grind (arith, nat_tests) in
          let on = mod-begins c 0 now (mod-eq-zero_of_dvd (period c 0) (dvd_trans (period c 0) divides (subst (λ n. period c k ∣ n) is whole))) in
          absurd (cc)
    ]

pub within-start : (c : Configuration) (i n : ℕ) → 0 < period c i → begins c i (suc n) ≡ false → window_start c i (suc n) ≡ window_start c i n
within-start c i n positive h = grind (arith, nat_tests)

pub window-new : (c : Configuration) (past : List Entry) (i : ℕ) → begins c i (length past) ≡ true → window c (length past) past i ≡ []
window-new c past i h = grind (arith, nat_tests)

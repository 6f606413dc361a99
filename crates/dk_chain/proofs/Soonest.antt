-- A main has its k-th tick only when the kernel's own work that always comes before it is done: by counting the entries of its window.
use Rattle.dk_chain.proofs.Names.{ℕ, zero, suc, ◌≡◌, ◌+◌, ◌-◌, ◌*◌, ◌/◌, ◌%◌, ◌<◌, ◌≤◌, ◌⊎◌, inl, inr, true, false, ◌&&◌, ltb, List, [], ◌∷◌, length, take, drop, refl, sym, ap, ◌∙◌, subst, arith, Option, Some, None, count_by, cases_Bool, cases_lt, nat_tests, length-drop, div-add-mod', dvd_of_mod-eq-zero, mod-eq-zero_of_dvd, dvd_trans, mod-lt, mul-le-mul_left, Configuration, IsChecked, sum_from, period, main_level, release, window_start, Entry, Has, is_kernel_at, is_budget_of, is_of, kernel_level, payer, threads, main_thread, kernel_rem, held_by, chosen, past_at, job_from, count_by-cons, count-charged, spent, take-newest, main_id, main_row, same-row, threads-fit, Turn, by_hold, by_share, kind, Always, main-among, begins_free}
use Rattle.std.specs.Prelude.{max, slice_get}
use Rattle.std.specs.Option.{option_map_or}
use Rattle.std.proofs.lemmas.Bool.{and_from}
use Rattle.std.proofs.lemmas.Nat.{mod-mul-add}
use Rattle.std.proofs.lemmas.Map.Keys.{any_passes_from_place}
use Rattle.dk_config.specs.Windows.{ceiling}
use Rattle.dk_config.specs.Certification.{uses, is_user}
use Rattle.dk_config.specs.Ahead.{windows_begun}
use Rattle.dk_config.proofs.CheckedConfig.{use_of}
use Rattle.dk_config.proofs.Sums.{sum_from-le, sum_from-add, sum_from-eq, sum_from-zero}
use Rattle.dk_trace.specs.Holds.{Hold, least_ceiling, level_holding}
use Rattle.dk_trace.specs.Entries.{window}
use Rattle.dk_trace.proofs.Windows.{mod-next, count-begins}
use Rattle.dk_trace.proofs.Starts.{kernel_paid, one_or_none}
use Rattle.dk_bound.proofs.Ahead.{windows_later, later-within, later-begins, later-start, kernel_left}
use Rattle.dk_bound.proofs.ByWhen.{audited-drop}
use Rattle.dk_bound.proofs.Bounded.{past_at-later}
use Rattle.dk_bound.proofs.ClockMoves.{windows_are_done, mod-begins}
use Rattle.dk_bound.proofs.Demands.{kernel_rem-moves}
use Rattle.dk_bound.proofs.Standing.{holders_known}
use Rattle.dk_when.specs.Earliest.{may_hold_off, windows_over, HasRoom}
use Rattle.dk_chain.specs.NotBefore.{HasRoomBy, NotBefore}
use Rattle.dk_chain.proofs.InOrder.{Rules, Waits, rules-before, unbegun-start, used-from, waits-on}
use Rattle.dk_chain.proofs.KernelFirst.{Picked, picked-of, budget-chosen, one-kernel, take-short, all-done}

-- the entries from tick s on
abbrev pub since : ℕ → List Entry → List Entry
since s past = take (length past - s) past

abbrev pub kernels : ℕ → ℕ → List Entry → ℕ
kernels i s past = count_by (is_kernel_at i) (since s past)

pub since-next : (s : ℕ) (e : Entry) (past : List Entry) → s ≤ length past → since s (e ∷ past) ≡ e ∷ since s past
since-next s e past le = take-newest (length past) s e past le

pub kernels-next : (i s : ℕ) (e : Entry) (past : List Entry) → s ≤ length past → kernels i s (e ∷ past) ≡ kernel_paid i e + kernels i s past
kernels-next i s e past le = ap (count_by (is_kernel_at i)) (since-next s e past le) ∙ count_by-cons (is_kernel_at i) e (since s past)

-- what is left of the kernel's own work of level i until a tick falls by its ticks alone
kernel-spent : (c : Configuration) (end i : ℕ) (e : Entry) (past : List Entry)
    → kernel_left c end (length past) past i ≤ kernel_left c end (length past) (e ∷ past) i + kernel_paid i e
kernel-spent c end i e past = let more = count-charged (is_kernel_at i) c e past i in omega (arith, more)

kernel-comes : (c : Configuration) (end i : ℕ) (e : Entry) (past : List Entry) → Rules c (e ∷ past) → i < length c.levels → suc (length past) < end
    → kernel_left c end (length past) (e ∷ past) i ≤ kernel_left c end (suc (length past)) (e ∷ past) i
kernel-comes c end i e past know known early =
    let n = length past in
    let positive = know.checked.positive i known in
    elim (mod-next n (period c i) positive) [
      | inl turn ↦
          let later = later-begins c i n end positive turn.0 turn.1 early in
          let product : release c i * windows_later c i n end ≡ release c i + release c i * windows_later c i (suc n) end = ap (λ k. release c i * k) later ∙ omega arith in
          let none = count-begins (is_kernel_at i) c (e ∷ past) i turn.0 in
          let done = (windows_are_done c e past know.checked know.accepted know.audited).kernel i known (mod-begins c i (suc n) turn.0) in
          omega (arith, product, none, done)
      | inr within ↦
          let stays = kernel_rem-moves c i n (e ∷ past) within in
          let same : release c i * windows_later c i (suc n) end ≡ release c i * windows_later c i n end = ap (λ k. release c i * k) (later-within c i n end within) in
          omega (arith, stays, same)
    ]

kernel-first : (c : Configuration) (i s end : ℕ) (past : List Entry) → 0 < period c i → length past ≡ s → s % period c i ≡ 0 → s < end
    → release c i * windows_begun c i (end - s) ≤ kernel_left c end (length past) past i
kernel-first c i s end past positive at begins some =
    let n = length past in
    let begins' : n % period c i ≡ 0 = ap (λ k. k % period c i) at ∙ begins in
    let whole : n + (end - s) ≡ end = omega arith in
    let later = later-start c i n (end - s) positive begins' (omega arith) in
    let same : windows_later c i n (n + (end - s)) ≡ windows_later c i n end = ap (windows_later c i n) whole in
    let product : release c i * windows_begun c i (end - s) ≡ release c i + release c i * windows_later c i n end =
    ap (λ k. release c i * k) (later ∙ ap suc same) ∙ omega arith in
    let none = count-begins (is_kernel_at i) c past i begins' in
    omega (arith, product, none)

-- what the kernel has to do until a tick from the start of a window on is still to come, or was done
credit : (c : Configuration) (i s end : ℕ) (past : List Entry) → Rules c past → i < length c.levels → s % period c i ≡ 0 → s ≤ length past → length past < end
    → release c i * windows_begun c i (end - s) ≤ kernel_left c end (length past) past i + kernels i s past
credit c i s end [] know known begins le early =
    let first = kernel-first c i s end [] (know.checked.positive i known) (omega arith) begins (omega arith) in
    omega (arith, first)
credit c i s end (e ∷ past) know known begins le early =
    elim (cases_lt (length past) s) [
      | inl new ↦
          let first = kernel-first c i s end (e ∷ past) (know.checked.positive i known) (omega arith) begins (omega arith) in
          omega (arith, first)
      | inr old ↦
          let before = credit c i s end past (rules-before c e past know) known begins old (omega arith) in
          let spends = kernel-spent c end i e past in
          let comes = kernel-comes c end i e past know known early in
          let next = kernels-next i s e past old in
          omega (arith, before, spends, comes, next)
    ]

-- with the present entry, before the clock goes on
credit-now : (c : Configuration) (i s : ℕ) (e : Entry) (past : List Entry) → Rules c (e ∷ past) → i < length c.levels → s % period c i ≡ 0 → s ≤ length past
    → release c i * windows_begun c i (suc (length past) - s) ≤ kernel_left c (suc (length past)) (length past) (e ∷ past) i + kernels i s (e ∷ past)
credit-now c i s e past know known begins le =
    let before = credit c i s (suc (length past)) past (rules-before c e past know) known begins le (omega arith) in
    let spends = kernel-spent c (suc (length past)) i e past in
    let next = kernels-next i s e past le in
    omega (arith, before, spends, next)

pub none-later : (c : Configuration) (i n : ℕ) → 0 < period c i → windows_later c i n (suc n) ≡ 0
none-later c i n positive = grind (arith, nat_tests)

pub left-now : (c : Configuration) (i n : ℕ) (past : List Entry) → 0 < period c i → kernel_left c (suc n) n past i ≡ kernel_rem c n past i
left-now c i n past positive =
    let later = none-later c i n positive in
    let product : release c i * windows_later c i n (suc n) ≡ 0 = ap (λ k. release c i * k) later ∙ omega arith in
    omega (arith, product)

-- where nothing of it is left, it was done in each window that has begun
all-begun : (c : Configuration) (i s : ℕ) (e : Entry) (past : List Entry) → Rules c (e ∷ past) → i < length c.levels → s % period c i ≡ 0 → s ≤ length past
    → kernel_rem c (length past) past i ≡ 0 → release c i * windows_begun c i (suc (length past) - s) ≤ kernels i s (e ∷ past)
all-begun c i s e past know known begins le none =
    let before = credit c i s (suc (length past)) past (rules-before c e past know) known begins le (omega arith) in
    let left = left-now c i (length past) past (know.checked.positive i known) in
    let next = kernels-next i s e past le in
    omega (arith, before, left, none, next)

-- windows that have ended, and those that have begun
ended-whole : (P g : ℕ) → 0 < P → g % P ≡ 0 → (g + (P - 1)) / P ≡ g / P
ended-whole P g positive whole = grind (arith, nat_tests)

ended-part : (P g : ℕ) → 0 < P → 0 < g % P → (g + (P - 1)) / P ≡ suc (g / P)
ended-part P g positive part = grind (arith, nat_tests)

mod-apart : (P s n : ℕ) → 0 < P → s % P ≡ 0 → s ≤ n → n % P ≡ (n - s) % P
mod-apart P s n positive begins le =
    let g = n - s in
    let part = div-add-mod' g P in
    let whole = div-add-mod' s P in
    let sum : n ≡ (g / P + s / P) * P + g % P = omega (arith, part, whole, begins, le) in
    ap (λ k. k % P) sum ∙ mod-mul-add (g / P + s / P) P (g % P) (mod-lt g positive)

-- it was done in each window that has ended
all-ended : (c : Configuration) (i s : ℕ) (e : Entry) (past : List Entry) → Rules c (e ∷ past) → i < length c.levels → s % period c i ≡ 0 → s ≤ length past
    → release c i * ((suc (length past) - s) / period c i) ≤ kernels i s (e ∷ past)
all-ended c i s e past know known begins le =
    let n = length past in
    let g = suc n - s in
    let P = period c i in
    let positive = know.checked.positive i known in
    let sum = credit-now c i s e past know known begins le in
    let left = left-now c i n (e ∷ past) positive in
    let apart : suc n % P ≡ g % P = mod-apart P s (suc n) positive begins (omega arith) in
    elim (cases_lt 0 (g % P)) [
      | inr whole ↦
          let at : g % P ≡ 0 = omega arith in
          let done = (windows_are_done c e past know.checked know.accepted know.audited).kernel i known (mod-begins c i (suc n) (apart ∙ at)) in
          let same : release c i * windows_begun c i g ≡ release c i * (g / P) = ap (λ k. release c i * k) (ended-whole P g positive at) in
          omega (arith, sum, left, done, same)
      | inl part ↦
          let same : release c i * windows_begun c i g ≡ release c i + release c i * (g / P) = ap (λ k. release c i * k) (ended-part P g positive part) ∙ omega arith in
          let most : kernel_rem c n (e ∷ past) i ≤ release c i = omega arith in
          omega (arith, sum, left, same, most)
    ]

-- a tick is the main's or of one level's kernel
one-each : (p low n : ℕ) (e : Entry) → sum_from low n (λ i. kernel_paid i e) + spent (main_id p) e ≤ 1
one-each p low n e = go (kernel_level e.label) refl
  where
    go : (level : Option ℕ) → kernel_level e.label ≡ level → sum_from low n (λ i. kernel_paid i e) + spent (main_id p) e ≤ 1
    go None is =
        let none = sum_from-eq low n (λ i. kernel_paid i e) (λ i. 0) (λ i. rw is refl) in
        let zeros = sum_from-zero low n in
        let one = one_or_none (is_budget_of (main_id p) e) in
        omega (arith, none, zeros, one)
    go (Some k) is =
        let most = one-kernel low n (Some k) e is in
        let none : spent (main_id p) e ≡ 0 = grind (arith, nat_tests) in
        omega (arith, most, none)

pub mine-most : (p low n : ℕ) (es : List Entry) → sum_from low n (λ i. count_by (is_kernel_at i) es) + count_by (is_budget_of (main_id p)) es ≤ length es
mine-most p low n [] = let zeros = sum_from-zero low n in omega (arith, zeros)
mine-most p low n (e ∷ es) =
    let split = sum_from-eq low n (λ i. count_by (is_kernel_at i) (e ∷ es)) (λ i. kernel_paid i e + count_by (is_kernel_at i) es)
    (λ i. count_by-cons (is_kernel_at i) e es) in
    let add = sum_from-add low n (λ i. kernel_paid i e) (λ i. count_by (is_kernel_at i) es) in
    let own = count_by-cons (is_budget_of (main_id p)) e es in
    let one = one-each p low n e in
    let rest = mine-most p low n es in
    omega (arith, split, add, own, one, rest)

-- a holder runs at no level that is faster than each that it may lock
abbrev NotOff : Configuration → ℕ → ℕ → Type 0
NotOff c p i = may_hold_off c p i ≡ false

slow-ceiling : (c : Configuration) (p i m : ℕ) → NotOff c p i → is_user c m p ≡ true → i ≤ ceiling c m
slow-ceiling c p i m off uses_it =
    let u = use_of c m p uses_it in
    let at : ceiling c m ≡ u.mutex.ceiling = ap (λ o. option_map_or (λ r. r.ceiling) o 0) u.mutex_at in
    let used : option_map_or (uses u.mutex) (slice_get c.processes p) false ≡ true = ap (λ o. option_map_or (uses u.mutex) o false) u.row_at ∙ u.used in
    elim (cases_Bool (ltb u.mutex.ceiling i)) [
      | inr low ↦ grind (arith, nat_tests)
      | inl fast ↦
          let passes : (ltb u.mutex.ceiling i && option_map_or (uses u.mutex) (slice_get c.processes p) false) ≡ true = and_from (ltb u.mutex.ceiling i) _ fast used in
          let some : may_hold_off c p i ≡ true =
          any_passes_from_place (λ mutex. ltb mutex.ceiling i && option_map_or (uses mutex) (slice_get c.processes p) false) c.mutexes m u.mutex u.mutex_at passes in
          absurd (cc)
    ]

least-slow : (c : Configuration) (i n : ℕ) (held : List Hold) → i ≤ n → ((h : Hold) → Has held h → i ≤ ceiling c h.mutex) → i ≤ least_ceiling c n held
least-slow c i n [] le each = le
least-slow c i n (h ∷ held) le each =
    let first = each h (inl refl) in
    let rest = least-slow c i n held le (λ k has. each k (inr has)) in
    omega (arith, first, rest)

level-slow : (c : Configuration) (i own : ℕ) (held : List Hold) → i ≤ own → ((h : Hold) → Has held h → i ≤ ceiling c h.mutex) → i ≤ level_holding c own held
level-slow c i own [] le each = le
level-slow c i own (h ∷ held) le each = least-slow c i (ceiling c h.mutex) held (each h (inl refl)) (λ k has. each k (inr has))

-- so where it has a tick of its share, the kernel has nothing left for that level
nothing-left : (c : Configuration) (p i : ℕ) (e : Entry) (past : List Entry) → Rules c (e ∷ past) → p < length c.processes → i ≤ main_level c p → NotOff c p i
    → payer e.label ≡ Some (main_id p) → kernel_rem c (length past) past i ≡ 0
nothing-left c p i e past know here le off pays =
    let choice = budget-chosen (chosen c past) e.label (main_id p) know.audited.1.choice pays in
    let picked = picked-of c past (main_id p) choice.0 choice.1 in
    let fit = threads-fit c past know.checked know.audited.0 in
    let row : main_row c p past ≡ picked.who = same-row (threads c past) (main_row c p past) picked.who fit.distinct (main-among c p past here) picked.among (sym picked.same) in
    go picked (subst (Turn c past picked.place) (sym row) picked.turn)
  where
    by-place : (picked : Picked c past (main_id p)) → i ≤ picked.place → kernel_rem c (length past) past i ≡ 0
    by-place picked low =
        elim (cases_lt i picked.place) [
          | inl less ↦ (picked.passed i less).kernel
          | inr more ↦ let same : picked.place ≡ i = omega (arith, low, more) in subst (λ j. kernel_rem c (length past) past j ≡ 0) same picked.kernel
        ]

    go : (picked : Picked c past (main_id p)) → Turn c past picked.place (main_row c p past) → kernel_rem c (length past) past i ≡ 0
    go picked (by_share nobody first level some) = by-place picked (omega (arith, level, le))
    go picked (by_hold holds level) =
        let known = holders_known c past know.checked know.accepted know.audited.0 (main_id p) holds in
        let slow = level-slow c i (main_level c p) (held_by (main_id p) past) le (λ h has. slow-ceiling c p i h.mutex off (known.users h has)) in
        by-place picked (omega (arith, level, slow))

-- The kernel's own work of each level was done once since the window began.
abbrev OnceDone : Configuration → ℕ → ℕ → List Entry → Type 0
OnceDone c p s past = (i : ℕ) → i ≤ main_level c p → release c i ≤ kernels i s past

-- level i's windows begin with those of p
pub begins-too : (c : Configuration) (p i s : ℕ) → IsChecked c → p < length c.processes → i ≤ main_level c p → s % period c (main_level c p) ≡ 0 → s % period c i ≡ 0
begins-too c p i s checked here le begins =
    mod-eq-zero_of_dvd (period c i) (dvd_trans (period c i) (checked.divides i (main_level c p) le (checked.levels p here)) (dvd_of_mod-eq-zero (period c (main_level c p)) begins))

one-begun : (P g : ℕ) → 0 < P → 0 < g → 1 ≤ (g + (P - 1)) / P
one-begun P g positive some = grind (arith, nat_tests)

times-one : (r k : ℕ) → 1 ≤ k → r ≤ r * k
times-one r k some = let le : r * 1 ≤ r * k = mul-le-mul_left r some in omega (arith, le)

-- the main waits yet, or it was done
waits-or-done : (c : Configuration) (p s : ℕ) (past : List Entry) → Rules c past → p < length c.processes → s % period c (main_level c p) ≡ 0
    → s ≤ length past → length past ≤ s + period c (main_level c p) → Waits c p s past ⊎ OnceDone c p s past
waits-or-done c p s [] know here begins from within = inl (record { unbegun = unbegun-start c p s [] begins (omega arith); free = refl })
waits-or-done c p s (e ∷ past) know here begins from within =
    elim (cases_lt (length past) s) [
      | inl new ↦
          let now : suc (length past) ≡ s = omega arith in
          let begins' : suc (length past) % period c (main_level c p) ≡ 0 = ap (λ k. k % period c (main_level c p)) now ∙ begins in
          inl (record {
            unbegun = unbegun-start c p s (e ∷ past) begins (omega arith);
            free = begins_free c (e ∷ past) know.checked know.accepted know.audited (main_row c p (e ∷ past)) (main-among c p (e ∷ past) here) begins';
          })
      | inr old ↦ next old (waits-or-done c p s past (rules-before c e past know) here begins old (omega arith))
    ]
  where
    next : s ≤ length past → Waits c p s past ⊎ OnceDone c p s past → Waits c p s (e ∷ past) ⊎ OnceDone c p s (e ∷ past)
    next old (inr done) = inr (λ i le. let more = kernels-next i s e past old in let least = done i le in omega (arith, more, least))
    next old (inl waits) =
        elim (cases_Bool (is_of (main_id p) e)) [
          | inr other ↦ inl (waits-on c p s e past old (omega arith) other waits)
          | inl mine ↦
              inr (λ i le.
              let known : i < length c.levels = (let there = know.checked.levels p here in omega (arith, there, le)) in
              let none = all-done c p e past know here waits.free mine (kind c past e know.audited.1) i le in
              let all = all-begun c i s e past know known (begins-too c p i s know.checked here le begins) old none in
              let once = times-one (release c i) (windows_begun c i (suc (length past) - s)) (one-begun (period c i) (suc (length past) - s) (know.checked.positive i known) (omega arith)) in
              omega (arith, all, once))
        ]

-- where the main has a tick of its share, what always comes before it was done
each-over : (c : Configuration) (p s i : ℕ) (e : Entry) (past : List Entry) → Rules c (e ∷ past) → p < length c.processes → s % period c (main_level c p) ≡ 0
    → s ≤ length past → length past < s + period c (main_level c p) → payer e.label ≡ Some (main_id p) → is_of (main_id p) e ≡ true → i ≤ main_level c p
    → release c i * windows_over c p i (suc (length past) - s) ≤ kernels i s (e ∷ past)
each-over c p s i e past know here begins from within pays mine le =
    let there = know.checked.levels p here in
    let known : i < length c.levels = omega (arith, there, le) in
    let begins' = begins-too c p i s know.checked here le begins in
    let g = suc (length past) - s in
    elim (cases_Bool (may_hold_off c p i)) [
      | inr off ↦
          let all = all-begun c i s e past know known begins' from (nothing-left c p i e past know here le off pays) in
          let is : windows_over c p i g ≡ windows_begun c i g = rw off refl in
          let same : release c i * windows_over c p i g ≡ release c i * windows_begun c i g = ap (λ k. release c i * k) is in
          omega (arith, all, same)
      | inl may ↦
          let ended = all-ended c i s e past know known begins' from in
          let once : release c i ≤ kernels i s (e ∷ past) = first (waits-or-done c p s past (rules-before c e past know) here begins from (omega arith)) known begins' in
          let is : windows_over c p i g ≡ max 1 (g / period c i) = rw may refl in
          let same : release c i * windows_over c p i g ≡ release c i * max 1 (g / period c i) = ap (λ k. release c i * k) is in
          let both = greater (release c i) (g / period c i) (kernels i s (e ∷ past)) once ended in
          omega (arith, same, both)
    ]
  where
    greater : (r k n : ℕ) → r ≤ n → r * k ≤ n → r * max 1 k ≤ n
    greater r zero n one more = omega arith
    greater r (suc k) n one more = let is : max 1 (suc k) ≡ suc k = omega arith in rw is more

    first : Waits c p s past ⊎ OnceDone c p s past → i < length c.levels → s % period c i ≡ 0 → release c i ≤ kernels i s (e ∷ past)
    first (inr done) known begins' = let more = kernels-next i s e past from in let least = done i le in omega (arith, more, least)
    first (inl waits) known begins' =
        let none = all-done c p e past know here waits.free mine (kind c past e know.audited.1) i le in
        let all = all-begun c i s e past know known begins' from none in
        let once = times-one (release c i) (windows_begun c i (suc (length past) - s)) (one-begun (period c i) (suc (length past) - s) (know.checked.positive i known) (omega arith)) in
        omega (arith, all, once)

-- how many ticks of its share the main has had since s
abbrev pub had : Configuration → ℕ → ℕ → List Entry → ℕ
had c p s past = (job_from c past (main_thread c p) s).used

room-now : (c : Configuration) (p s k : ℕ) (e : Entry) (past : List Entry) → Rules c (e ∷ past) → p < length c.processes → s % period c (main_level c p) ≡ 0
    → s ≤ length past → length past < s + period c (main_level c p) → payer e.label ≡ Some (main_id p) → is_of (main_id p) e ≡ true → k ≤ had c p s (e ∷ past)
    → HasRoom c p k (suc (length past) - s)
room-now c p s k e past know here begins from within pays mine few =
    let m = main_level c p in
    let g = suc (length past) - s in
    let each = sum_from-le 0 (suc m) (λ i. release c i * windows_over c p i g) (λ i. kernels i s (e ∷ past))
    (λ i low high. each-over c p s i e past know here begins from within pays mine (omega arith)) in
    let most = mine-most p 0 (suc m) (since s (e ∷ past)) in
    let short = take-short (length (e ∷ past) - s) (e ∷ past) in
    let start : window_start c m s ≡ s = rw begins (omega arith) in
    let whole : had c p s (e ∷ past) ≡ count_by (is_budget_of (main_id p)) (since s (e ∷ past)) =
    ap (λ es. count_by (is_budget_of (main_id p)) (window c s es m)) (past_at-later (e ∷ past) (s + period c m) (omega arith))
    ∙ ap (λ w. count_by (is_budget_of (main_id p)) (take (length (e ∷ past) - w) (e ∷ past))) start in
    omega (arith, each, most, short, whole, few)

pub not-mine : (c : Configuration) (p s : ℕ) (e : Entry) (past : List Entry) → s + period c (main_level c p) ≤ length past → had c p s (e ∷ past) ≡ had c p s past
not-mine c p s e past late =
    let gone : suc (length past) - (s + period c (main_level c p)) ≡ suc (length past - (s + period c (main_level c p))) = omega arith in
    ap (λ k. (job_from_of (drop k (e ∷ past)))) gone
  where
    job_from_of : List Entry → ℕ
    job_from_of es = count_by (is_budget_of (main_id p)) (window c s es (main_level c p))

soon : (c : Configuration) (p s k : ℕ) (past : List Entry) → Rules c past → p < length c.processes → s % period c (main_level c p) ≡ 0 → s ≤ length past → 0 < k
    → k ≤ had c p s past → HasRoomBy c p k (length past - s)
soon c p s k [] know here begins from some few = let none = unbegun-start c p s [] begins (omega arith) in absurd (omega arith)
soon c p s k (e ∷ past) know here begins from some few =
    let n = length past in
    let P = period c (main_level c p) in
    elim (cases_lt n s) [
      | inl new ↦ let none = unbegun-start c p s (e ∷ past) begins (omega arith) in absurd (omega (arith, none, few, some))
      | inr old ↦
          elim (cases_lt n (s + P)) [
            | inr late ↦ later old (soon c p s k past (rules-before c e past know) here begins old some (let same = not-mine c p s e past late in omega (arith, same, few)))
            | inl within ↦
                elim (cases_lt (had c p s past) k) [
                  | inr enough ↦ later old (soon c p s k past (rules-before c e past know) here begins old some enough)
                  | inl less ↦
                      let next = used-from c p s e past old (omega arith) in
                      let paid = pays (omega (arith, next, less, few)) in
                      record { by = suc n - s; early = omega arith; within = omega arith; room = room-now c p s k e past know here begins old within paid.0 paid.1 few }
                ]
          ]
    ]
  where
    later : s ≤ length past → HasRoomBy c p k (length past - s) → HasRoomBy c p k (suc (length past) - s)
    later old r =
        let early = r.early in
        record { by = r.by; early = omega (arith, early); within = r.within; room = r.room }

    pays : 0 < spent (main_id p) e → (payer e.label ≡ Some (main_id p)) × (is_of (main_id p) e ≡ true)
    pays one = grind (arith, nat_tests)

pub not_before : Always NotBefore
not_before c past checked accepted audited p s f k here begins le some few =
    let early = past_at past (s + f) in
    let size : length early ≡ s + f = length-drop (length past - (s + f)) past ∙ omega arith in
    let r = soon c p s k early (record { checked = checked; accepted = accepted; audited = audited-drop c (length past - (s + f)) past audited }) here begins (omega (arith, size)) some few in
    let by = r.early in
    record { by = r.by; early = omega (arith, size, by); within = r.within; room = r.room }

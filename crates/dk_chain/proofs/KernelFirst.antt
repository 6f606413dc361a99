-- In each window of a main the kernel's own work of its level and the faster ones comes before it.
use Rattle.dk_chain.proofs.Names.{ℕ, zero, suc, ◌≡◌, ◌+◌, ◌-◌, ◌*◌, ◌/◌, ◌%◌, ◌<◌, ◌≤◌, inl, inr, Bool, true, false, cond, eqb, ltb, List, [], ◌∷◌, length, take, refl, sym, ap, ◌∙◌, subst, arith, Option, Some, None, count_by, unwrap_or, option_map, MatchOption, ◌∣◌, cases_Bool, cases_lt, nat_tests, length-drop, div-add-mod', dvd_of_mod-eq-zero, dvd_trans, le_of_dvd, dvd-mul_left, mod-lt, mul-le-mul_left, Configuration, IsChecked, IsAccepted, below, first_of, sum_from, period, main_level, release, window_start, ThreadId, Phase, Label, Choice, Entry, Has, is_kernel_at, is_of, kernel_level, payer, Thread, threads, kernel_rem, held_by, is_holding, chosen, choice_at, work_at, slack_at, holder_at, ready_at, on_budget, HasChosenLabel, count_by-cons, main_id, main_row, budget-labels, slack-labels, chosen-says, same-row, threads-fit, of-payer, of-borrower, of-nobody, Passed, Turn, by_hold, by_share, chosen-reason, no-work, turn-of, Kind, paid, lent, kernel, idle, kind, Always, main-among, begins_free}
use Rattle.std.specs.Option.{option_or}
use Rattle.dk_config.specs.Certification.{budgets_at}
use Rattle.dk_config.proofs.FirstOf.{IsFirst, NoAnswer, first_of-is, option_map-some, option_or-none}
use Rattle.dk_config.proofs.Sums.{sum_from-le, sum_from-add, sum_from-eq, sum_from-zero}
use Rattle.dk_trace.specs.Demand.{fits}
use Rattle.dk_chain.specs.Sooner.{releases_before, IsUnbegun, ReactsSooner}
use Rattle.dk_chain.proofs.Rounding.{apart}
use Rattle.dk_chain.proofs.InOrder.{Rules, Waits, at-tick, lent-at, rules-before, unbegun-start, waits-on}
use Rattle.dk_chain.proofs.Chain.{first-there, reacts_in_time}

-- what was chosen to run on its budget: its level's kernel had nothing left, and it was the level's turn
pub record Picked (c : Configuration) (past : List Entry) (x : ThreadId) : Type 0 where
  pub place : ℕ
  pub passed : Passed c past place
  pub kernel : kernel_rem c (length past) past place ≡ 0
  pub who : Thread
  pub among : Has (threads c past) who
  pub turn : Turn c past place who
  pub same : who.id ≡ x

picked-at : (c : Configuration) (past : List Entry) (choice : Choice) (x : ThreadId) (part : Phase) → IsFirst (choice_at c past) 0 (0 + length c.levels) choice
    → choice ≡ Choice.Budget x part → Picked c past x
picked-at c past choice x part first is = go (work_at c past first.place) refl (first.answer ∙ ap Some is)
  where
    go : (work : Option Choice) → work_at c past first.place ≡ work → option_or work (slack_at c past first.place) ≡ Some (Choice.Budget x part) → Picked c past x
    go None w h =
        elim (cases_Bool (fits c (length past) past)) [
          | inl fitting ↦ grind (arith, nat_tests, option_map-some)
          | inr tight ↦ let wrong : None ≡ Some (Choice.Budget x part) = rw tight at h in absurd (cc)
        ]
    go (Some work) w h =
        let all : work_at c past first.place ≡ Some (Choice.Budget x part) = w ∙ h in
        elim (cases_Bool (ltb 0 (kernel_rem c (length past) past first.place))) [
          | inl some ↦ let wrong : Some (Choice.Kernel first.place) ≡ Some (Choice.Budget x part) = rw some at all in absurd (cc)
          | inr none ↦
              let thread : option_map (on_budget c past) (option_or (holder_at c past first.place) (ready_at c past first.place)) ≡ Some (Choice.Budget x part) = rw none at all in
              let r = option_map-some (on_budget c past) (option_or (holder_at c past first.place) (ready_at c past first.place)) (Choice.Budget x part) thread in
              let t = turn-of c past first.place r.0 (holder_at c past first.place) refl r.1 in
              let budget_is : on_budget c past r.0 ≡ Choice.Budget x part = r.2 in
              record {
                place = first.place;
                passed = λ i less. no-work c past i (option_or-none (work_at c past i) (slack_at c past i) (first.before i (omega arith) less));
                kernel = grind (arith, nat_tests);
                who = r.0;
                among = t.0;
                turn = t.1;
                same = cc;
              }
        ]

pub picked-of : (c : Configuration) (past : List Entry) (x : ThreadId) (part : Phase) → chosen c past ≡ Choice.Budget x part → Picked c past x
picked-of c past x part is = go (first_of (choice_at c past) (below (length c.levels))) (first_of-is (choice_at c past) 0 (length c.levels)) is
  where
    go : (o : Option Choice) → MatchOption o (NoAnswer (choice_at c past) 0 (0 + length c.levels)) (IsFirst (choice_at c past) 0 (0 + length c.levels))
        → unwrap_or o Choice.Idle ≡ Choice.Budget x part → Picked c past x
    go None none h = absurd (cc)
    go (Some choice) first h = picked-at c past choice x part first h

pub budget-chosen : (choice : Choice) (label : Label) (x : ThreadId) → HasChosenLabel choice label → payer label ≡ Some x → (part : Phase) × (choice ≡ Choice.Budget x part)
budget-chosen (Choice.Kernel k) label x has pays = let none : payer label ≡ None = chosen-says payer (Choice.Kernel k) label None has (λ w. refl) in absurd (cc)
budget-chosen (Choice.Budget y part) label x has pays = grind (arith, nat_tests, chosen-says, budget-labels)
budget-chosen (Choice.Slack y source part) label x has pays = grind (arith, nat_tests, chosen-says, slack-labels)
budget-chosen Choice.Idle label x has pays = let none : payer label ≡ None = chosen-says payer Choice.Idle label None has (λ w. refl) in absurd (cc)

-- where a main that holds nothing has a tick, the kernel has nothing left for its level and the faster ones
pub all-done : (c : Configuration) (p : ℕ) (e : Entry) (past : List Entry) → Rules c (e ∷ past) → p < length c.processes
    → is_holding (held_by (main_id p) past) ≡ false → is_of (main_id p) e ≡ true → Kind c past e.label
    → (i : ℕ) → i ≤ main_level c p → kernel_rem c (length past) past i ≡ 0
all-done c p e past know here free mine (paid k y known passed has turn pays borrows at) i le =
    let id : main_id p ≡ y.id = of-payer (main_id p) y.id e pays mine in
    let choice = budget-chosen (chosen c past) e.label y.id know.audited.1.choice pays in
    let picked = picked-of c past y.id choice.0 choice.1 in
    let fit = threads-fit c past know.checked know.audited.0 in
    let row : main_row c p past ≡ picked.who = same-row (threads c past) (main_row c p past) picked.who fit.distinct (main-among c p past here) picked.among (id ∙ sym picked.same) in
    go picked (subst (Turn c past picked.place) (sym row) picked.turn)
  where
    go : (picked : Picked c past y.id) → Turn c past picked.place (main_row c p past) → kernel_rem c (length past) past i ≡ 0
    go picked (by_hold holds level) = absurd (cc)
    go picked (by_share nobody first level some) =
        elim (cases_lt i picked.place) [
          | inl less ↦ (picked.passed i less).kernel
          | inr more ↦ let same : picked.place ≡ i = omega (arith, level, le, more) in subst (λ j. kernel_rem c (length past) past j ≡ 0) same picked.kernel
        ]
all-done c p e past know here free mine (lent k x known passed has none room pays borrows at) i le =
    let fit = threads-fit c past know.checked know.audited.0 in
    let l = lent-at c past (chosen c past) e.label x.id (chosen-reason c past) know.audited.1.choice borrows in
    let y = l.0 in
    let id : main_id p ≡ y.id = of-borrower (main_id p) x.id e borrows mine ∙ l.3 in
    let row : main_row c p past ≡ y = same-row (threads c past) (main_row c p past) y fit.distinct (main-among c p past here) l.1 id in
    let level : main_level c p ≡ y.level = ap (λ z. z.level) row in
    (l.2 i (omega (arith, level, le))).kernel
all-done c p e past know here free mine (kernel k known passed some pays borrows at) i le = absurd (of-nobody (main_id p) e pays borrows mine)
all-done c p e past know here free mine (idle passed pays borrows at) i le = absurd (of-nobody (main_id p) e pays borrows mine)

-- an entry is of one level's kernel at most
none-of : (low n k : ℕ) → k < low → sum_from low n (λ i. cond (eqb k i) 1 0) ≡ 0
none-of low zero k less = refl
none-of low (suc n) k less = grind (arith, nat_tests, none-of (suc low) n)

one-of : (low n k : ℕ) → sum_from low n (λ i. cond (eqb k i) 1 0) ≤ 1
one-of low zero k = omega arith
one-of low (suc n) k = grind (arith, nat_tests, none-of, one-of (suc low) n)

pub one-kernel : (low n : ℕ) (level : Option ℕ) (e : Entry) → kernel_level e.label ≡ level → sum_from low n (λ i. cond (is_kernel_at i e) 1 0) ≤ 1
one-kernel low n None e is =
    let none = sum_from-eq low n (λ i. cond (is_kernel_at i e) 1 0) (λ i. 0) (λ i. rw is refl) in
    let zeros = sum_from-zero low n in
    omega (arith, none, zeros)
one-kernel low n (Some k) e is =
    let one = sum_from-eq low n (λ i. cond (is_kernel_at i e) 1 0) (λ i. cond (eqb k i) 1 0) (λ i. rw is refl) in
    let most = one-of low n k in
    omega (arith, one, most)

kernels-most : (low n : ℕ) (es : List Entry) → sum_from low n (λ i. count_by (is_kernel_at i) es) ≤ length es
kernels-most low n [] = let zeros = sum_from-zero low n in omega (arith, zeros)
kernels-most low n (e ∷ es) =
    let split = sum_from-eq low n (λ i. count_by (is_kernel_at i) (e ∷ es)) (λ i. cond (is_kernel_at i e) 1 0 + count_by (is_kernel_at i) es)
    (λ i. count_by-cons (is_kernel_at i) e es) in
    let add = sum_from-add low n (λ i. cond (is_kernel_at i e) 1 0) (λ i. count_by (is_kernel_at i) es) in
    let one = one-kernel low n (kernel_level e.label) e refl in
    let rest = kernels-most low n es in
    omega (arith, split, add, one, rest)

pub count-longer : (test : Entry → Bool) (j k : ℕ) (es : List Entry) → j ≤ k → count_by test (take j es) ≤ count_by test (take k es)
count-longer test zero k es le = omega arith
count-longer test (suc j) zero es le = absurd (omega arith)
count-longer test (suc j) (suc k) [] le = omega arith
count-longer test (suc j) (suc k) (e ∷ es) le = grind (arith, nat_tests, count_by-cons, count-longer test j k es)

pub take-short : (j : ℕ) (es : List Entry) → length (take j es) ≤ j
take-short zero es = omega arith
take-short (suc j) [] = omega arith
take-short (suc j) (e ∷ es) = let rest = take-short j es in omega (arith, rest)

-- the present window doesn't begin before a window of a slower level
pub start-from : (c : Configuration) (i s n : ℕ) → 0 < period c i → period c i ∣ s → s ≤ n → s ≤ window_start c i n
start-from c i s n positive whole le =
    let P = period c i in
    let split = div-add-mod' n P in
    let rest = mod-lt n positive in
    let is : n / P * P ≡ window_start c i n = omega (arith, split) in
    let whole' : P ∣ window_start c i n = subst (λ k. P ∣ k) is (dvd-mul_left P (n / P)) in
    elim (cases_lt (window_start c i n) s) [
      | inr fine ↦ fine
      | inl less ↦ let far = apart P (window_start c i n) s whole' whole less in absurd (omega (arith, far, rest, le))
    ]

-- in the first ticks of a window the kernel has something left
still-releasing : (c : Configuration) (p s : ℕ) (past : List Entry) → IsChecked c → p < length c.processes → s % period c (main_level c p) ≡ 0
    → s ≤ length past → length past < s + releases_before c p → ((i : ℕ) → i ≤ main_level c p → kernel_rem c (length past) past i ≡ 0) → ⊥
still-releasing c p s past checked here begins from under nothing =
    let m = main_level c p in
    let n = length past in
    let first = take (n - s) past in
    let there = checked.levels p here in
    let whole = dvd_of_mod-eq-zero (period c m) begins in
    let each : (i : ℕ) → 0 ≤ i → i < 0 + suc m → release c i ≤ count_by (is_kernel_at i) first = λ i low high.
    (let known : i < length c.levels = omega (arith, there, high) in
    let start = start-from c i s n (checked.positive i known) (dvd_trans (period c i) (checked.divides i m (omega (arith, high)) there) whole) from in
    let none = nothing i (omega (arith, high)) in
    let longer = count-longer (is_kernel_at i) (n - window_start c i n) (n - s) past (omega (arith, start)) in
    omega (arith, none, longer)) in
    let sum = sum_from-le 0 (suc m) (release c) (λ i. count_by (is_kernel_at i) first) each in
    let most = kernels-most 0 (suc m) first in
    let short = take-short (n - s) past in
    omega (arith, sum, most, short, from, under)

-- the kernel's own work of the levels fits a window
more-times : (x b y : ℕ) → 1 ≤ y → x ≤ (x + b) * y
more-times x b y some = let le : (x + b) * 1 ≤ (x + b) * y = mul-le-mul_left (x + b) some in omega (arith, le)

divided : (P Q : ℕ) → 0 < P → P ≤ Q → 1 ≤ Q / P
divided P Q positive le = grind (arith, nat_tests, div-add-mod', mod-lt)

releases-fit : (c : Configuration) (p : ℕ) → IsChecked c → IsAccepted c → p < length c.processes → releases_before c p ≤ period c (main_level c p)
releases-fit c p checked accepted here =
    let m = main_level c p in
    let there = checked.levels p here in
    let fits = accepted m there in
    let each : (i : ℕ) → 0 ≤ i → i < 0 + suc m → release c i ≤ (release c i + budgets_at c i) * (period c m / period c i) = λ i low high.
    (let known : i < length c.levels = omega (arith, there, high) in
    more-times (release c i) (budgets_at c i) (period c m / period c i)
    (divided (period c i) (period c m) (checked.positive i known) (le_of_dvd (checked.positive m there) (checked.divides i m (omega (arith, high)) there)))) in
    let sum = sum_from-le 0 (suc m) (release c) (λ i. (release c i + budgets_at c i) * (period c m / period c i)) each in
    omega (arith, sum, fits)

-- so long the main has no tick
waits-first : (c : Configuration) (p s : ℕ) (past : List Entry) → Rules c past → p < length c.processes → s % period c (main_level c p) ≡ 0
    → s ≤ length past → length past ≤ s + releases_before c p → Waits c p s past
waits-first c p s [] know here begins from within = record { unbegun = unbegun-start c p s [] begins (omega arith); free = refl }
waits-first c p s (e ∷ past) know here begins from within =
    elim (cases_lt (length past) s) [
      | inl new ↦
          let now : suc (length past) ≡ s = omega arith in
          let begins' : suc (length past) % period c (main_level c p) ≡ 0 = ap (λ k. k % period c (main_level c p)) now ∙ begins in
          record {
            unbegun = unbegun-start c p s (e ∷ past) begins (omega arith);
            free = begins_free c (e ∷ past) know.checked know.accepted know.audited (main_row c p (e ∷ past)) (main-among c p (e ∷ past) here) begins';
          }
      | inr old ↦
          let waits = waits-first c p s past (rules-before c e past know) here begins (omega arith) (omega arith) in
          let fit = releases-fit c p know.checked know.accepted here in
          let other : is_of (main_id p) e ≡ false = (elim (cases_Bool (is_of (main_id p) e)) [
            | inr other ↦ other
            | inl mine ↦ absurd (still-releasing c p s past know.checked here begins (omega arith) (omega arith)
                (all-done c p e past know here waits.free mine (kind c past e know.audited.1)))
          ]) in
          waits-on c p s e past (omega arith) (omega (arith, fit)) other waits
    ]

unbegun-by : (c : Configuration) (p s u : ℕ) (past : List Entry) → Rules c past → p < length c.processes → s % period c (main_level c p) ≡ 0
    → u ≤ s + releases_before c p → IsUnbegun c past u p s
unbegun-by c p s u past know here begins le begun = grind (arith, nat_tests, length-drop, unbegun-start, waits-first, at-tick)

pub reacts_sooner : Always ReactsSooner
reacts_sooner c past checked accepted audited done p rest reaction t u are_done there is known le =
    let answers = reacts_in_time c past checked accepted audited done (p ∷ rest) reaction t are_done there is known in
    let from = answers.1 in (
      answers.0,
      answers.2,
      unbegun-by c p answers.0 u past (record { checked = checked; accepted = accepted; audited = audited }) (first-there c p rest there) answers.2 (omega (arith, from, le)),
      answers.3,
    )
